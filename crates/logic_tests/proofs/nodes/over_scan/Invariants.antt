-- The expression so far calls no other operators.
use Rattle.logical_trees.specs.Tree.{tree_of}
use Rattle.logic_tests.specs.Calling.{AreCalledFirst}
use Rattle.logic_tests.proofs.nodes.over_scan.Given as goal

abbrev pub invariant-loop-node : goal.invariant-loop-node
invariant-loop-node l = AreCalledFirst (tree_of l.tree)
