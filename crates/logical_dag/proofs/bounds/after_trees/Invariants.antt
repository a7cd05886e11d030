-- The nodes of the first trees have their room.
use Rattle.std.proofs.Common.{◌≡◌, ◌+◌, sum_by, take}
use Rattle.logical_trees.specs.Tree.{tree_of}
use Rattle.logical_dag.specs.Bounds.{node_count}
use Rattle.logical_dag.proofs.bounds.after_trees.Given as goal

abbrev pub invariant-loop-tree : goal.invariant-loop-tree
invariant-loop-tree l = l.room ≡ sum_by (λ t. node_count (tree_of t)) (take l.tree-index l.trees) + l.left
