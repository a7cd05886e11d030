-- The expression so far is formed, and its columns stay those of the scan.
use Rattle.logical_trees.specs.Tree.{tree_of}
use Rattle.logic_tests.specs.Tall.{IsOverFour}
use Rattle.logic_tests.proofs.tall.filters.Given as goal

abbrev pub invariant-loop : goal.invariant-loop
invariant-loop l = IsOverFour (tree_of l.tree)
