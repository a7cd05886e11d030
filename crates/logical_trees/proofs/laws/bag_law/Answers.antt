-- The three clauses are lemmas on what stands for an expression.
use Rattle.logical_trees.specs.MeaningLemmas.{order_free, some_bag}
use Rattle.logical_trees.specs.OneBagLemmas.{one_bag}
use Rattle.logical_trees.proofs.laws.bag_law.Goals as goal

pub returns-clause-order_free : goal.returns-clause-order_free
returns-clause-order_free c = order_free

pub returns-clause-one : goal.returns-clause-one
returns-clause-one c = one_bag

pub returns-clause-some : goal.returns-clause-some
returns-clause-some c = some_bag
