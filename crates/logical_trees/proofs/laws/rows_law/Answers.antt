use Rattle.logical_trees.specs.RowsOverLemmas.{rows_over}
use Rattle.logical_trees.proofs.laws.rows_law.Goals as goal

pub returns : goal.returns
returns c = rows_over
