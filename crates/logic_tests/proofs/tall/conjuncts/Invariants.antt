-- The predicate so far is over the columns 0 to 3.
use Rattle.logical_trees.specs.Formed.{IsOver}
use Rattle.logic_tests.specs.Tall.{four_columns}
use Rattle.logic_tests.proofs.tall.conjuncts.Given as goal

abbrev pub invariant-loop : goal.invariant-loop
invariant-loop l = IsOver four_columns l.all
