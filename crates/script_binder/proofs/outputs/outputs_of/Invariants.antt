use Rattle.std.proofs.Common.{map, take}
use Rattle.logical_trees.specs.Tree.{tree_of}
use Rattle.script_meaning.specs.Dag.{place_in}
use Rattle.script_binder.specs.Steps.{AreTreesMade, AreOutputs}
use Rattle.script_binder.proofs.outputs.outputs_of.Given as goal

-- the first outputs
abbrev pub invariant-loop-at : goal.invariant-loop-at
invariant-loop-at l = record {
  trees : AreTreesMade l.script (place_in l.sharing.kept.items) (take l.at-index l.sharing.outputs.items) l.initial.scans.items l.scans.items (map (λ o. tree_of o.tree) l.outputs);
  says : AreOutputs l.script (take l.at-index l.sharing.outputs.items) l.outputs;
}
