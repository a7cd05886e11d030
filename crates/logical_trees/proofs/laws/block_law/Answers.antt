use Rattle.logical_trees.specs.PairLemmas.{own_join}
use Rattle.logical_trees.proofs.laws.block_law.Goals as goal

pub returns : goal.returns
returns c = own_join
