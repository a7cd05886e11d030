-- The shared trees and then the outputs are the parts of the script's Dag.
use Rattle.std.proofs.Common.{◌≡◌, ℕ, ◌+◌, ◌≤◌, List, [], map, length, sym, subst}
use Rattle.std.specs.Prelude.{IfOk}
use Rattle.logical_dag.specs.declared.dag.Output.{Output as Written}
use Rattle.logical_dag.specs.declared.dag.ScanDecl.{ScanDecl}
use Rattle.logical_trees.specs.declared.logical.Logical.{Logical}
use Rattle.logical_trees.specs.Tree.{tree_of}
use Rattle.script_meaning.specs.Bound.{parts_of}
use Rattle.script_meaning.specs.Dag.{place_in, scans_of_all, dag_of}
use Rattle.script_binder.specs.Steps.{AreTreesMade, AreOutputs, ShowsParts}
use Rattle.script_binder.proofs.Whole.{shared_room, outputs_room, parts_shown}
use Rattle.script_binder.proofs.dag.parts_of.Goals as goal

pub shared_trees-requires-clause-room : goal.shared_trees-requires-clause-room
shared_trees-requires-clause-room c =
    subst (λ (l : List ScanDecl). length l + length (scans_of_all (parts_of c.args.script.now) c.args.sharing.now.kept.items) ≤ 320) (sym c.new-scans.ensures.items)
    (shared_room c.bounds_law.ensures c.args.script.now c.args.sharing.now c.requires.standing.within c.requires.sharing)

pub outputs_of-requires-clause-room : goal.outputs_of-requires-clause-room
outputs_of-requires-clause-room c =
    let script = c.args.script.now in
    let sharing = c.args.sharing.now in
    let scans = c.shared_trees.new.scans.items in
    let trees = map tree_of c.in_ok-shared.shared in
    outputs_room c.bounds_law.ensures script sharing scans trees c.requires.standing.within c.requires.sharing
    (subst (λ (l : List ScanDecl). AreTreesMade script (place_in sharing.kept.items) sharing.kept.items l scans trees) c.new-scans.ensures.items c.in_ok-shared.ensures)

pub returns : goal.returns
returns c =
    let script = c.args.script.now in
    let sharing = c.args.sharing.now in
    let name = place_in sharing.kept.items in
    let outs = sharing.outputs.items in
    let shared = c.in_ok-shared.shared in
    let outputs = c.in_ok-shared-2.outputs in
    let middle = c.shared_trees.new.scans.items in
    let after = c.outputs_of.new.scans.items in
    let both = c.in_ok-shared-2.ensures in
    let first = subst (λ (l : List ScanDecl). AreTreesMade script name sharing.kept.items l middle (map tree_of shared)) c.new-scans.ensures.items c.in_ok-shared.ensures in
    let second = subst (λ r. IfOk r (λ (os : List Written). AreTreesMade script name outs middle after (map (λ o. tree_of o.tree) os))) both.1 c.outputs_of.ensures.trees in
    let says = subst (λ r. IfOk r (AreOutputs script outs)) both.1 c.outputs_of.ensures.outputs in
    subst (λ (l : List ScanDecl). ShowsParts (dag_of script) (record { scans = l; shared = c.in_ok-shared-2.shared; outputs = outputs })) (sym c.from_vec.ensures)
    (subst (λ (ts : List Logical). ShowsParts (dag_of script) (record { scans = after; shared = ts; outputs = outputs })) (sym both.0)
    (parts_shown script c.requires.standing.placed sharing middle after shared outputs c.requires.sharing first second says))
