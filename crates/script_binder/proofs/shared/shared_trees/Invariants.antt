use Rattle.std.proofs.Common.{map, take}
use Rattle.logical_trees.specs.Tree.{tree_of}
use Rattle.script_meaning.specs.Dag.{place_in}
use Rattle.script_binder.specs.Steps.{AreTreesMade}
use Rattle.script_binder.proofs.shared.shared_trees.Given as goal

-- the trees of the first kept results
abbrev pub invariant-loop-at : goal.invariant-loop-at
invariant-loop-at l = AreTreesMade l.script (place_in l.sharing.kept.items) (take l.at-index l.sharing.kept.items) l.initial.scans.items l.scans.items (map tree_of l.trees)
