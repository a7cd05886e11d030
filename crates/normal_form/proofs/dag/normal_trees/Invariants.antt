-- The normal forms that are done, and those of the trees that are left, are those of all.
use Rattle.std.proofs.Common.{◌≡◌, ◌++◌, map, length}
use Rattle.logical_trees.specs.Tree.{tree_of}
use Rattle.normal_meaning.specs.Sinking.{normal}
use Rattle.normal_form.proofs.dag.normal_trees.Given as goal

abbrev pub invariant-loop-alloc : goal.invariant-loop-alloc
invariant-loop-alloc l = map tree_of l.done ++ map normal (map tree_of l.trees) ≡ map normal (map tree_of l.initial.trees)

abbrev pub decreases-loop-alloc : goal.decreases-loop-alloc
decreases-loop-alloc l = length l.trees
