-- Both clauses are lemmas on the two steps.
use Rattle.logical_trees.specs.SplitLemmas.{split_group, split_top}
use Rattle.logical_trees.proofs.laws.split_law.Goals as goal

pub returns-clause-group : goal.returns-clause-group
returns-clause-group c = split_group

pub returns-clause-top : goal.returns-clause-top
returns-clause-top c = split_top
