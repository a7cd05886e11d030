-- The nodes of the first outputs' trees have their room.
use Rattle.std.proofs.Common.{◌≡◌, ◌+◌, sum_by, take}
use Rattle.logical_trees.specs.Tree.{tree_of}
use Rattle.logical_dag.specs.Bounds.{node_count}
use Rattle.logical_dag.proofs.bounds.after_outputs.Given as goal

abbrev pub invariant-loop-output : goal.invariant-loop-output
invariant-loop-output l = l.room ≡ sum_by (λ o. node_count (tree_of o.tree)) (take l.output-index l.outputs) + l.left
