-- The trees of a script, together.
use Rattle.std.proofs.Common.{◌≡◌, ℕ, ◌+◌, ◌<◌, ◌≤◌, List, [], ◌∷◌, ◌++◌, map, flat_map, length, refl, sym, ap, ap₂, ◌∙◌, arith, subst, length-append, Option}
use Rattle.std.proofs.lemmas.Grind.{flat_map-append}
use Rattle.std.proofs.lemmas.List.{length-map}
use Rattle.col_sets.specs.declared.dir.Dir.{Dir}
use Rattle.logical_dag.specs.Bounds.{AreBounded}
use Rattle.logical_dag.specs.declared.dag.Dag.{Dag}
use Rattle.logical_dag.specs.declared.dag.DagParts.{DagParts}
use Rattle.logical_dag.specs.declared.dag.Output.{Output as Written}
use Rattle.logical_dag.specs.declared.dag.ScanDecl.{ScanDecl}
use Rattle.logical_dag.specs.declared.dag.Stored.{Stored}
use Rattle.logical_dag.specs.Scripts.{scans_of}
use Rattle.logical_trees.specs.declared.logical.Logical.{Logical}
use Rattle.logical_trees.specs.Tree.{Expression, tree_of}
use Rattle.placed_trees.specs.declared.statement.Statement.{Statement}
use Rattle.script_meaning.specs.Part.{Part}
use Rattle.script_meaning.specs.Bound.{parts_of}
use Rattle.script_meaning.specs.Dag.{part_at, outs_of, kept_of, place_in, scans_of_all, trees_from, declared_all, stream_at, delimiter_at, column_order, column_stored, kept_trees, out_trees, dag_of}
use Rattle.script_meaning.specs.Placed.{IsPlaced}
use Rattle.script_meaning.specs.Within.{IsWithin, GivesBounded}
use Rattle.script_meaning.proofs.Declared.{length_declared}
use Rattle.result_sharing.specs.declared.sharing.Sharing.{Sharing}
use Rattle.result_sharing.specs.Sharing.{IsSharing}
use Rattle.script_binder.specs.Steps.{AreTreesMade, IsOutput, AreOutputs, ShowsParts}
use Rattle.script_binder.specs.Shown.{Shows}
use Rattle.script_binder.proofs.Trees.{declared_append, trees_length, trees_many}
use Rattle.script_binder.proofs.Outs.{outputs_mapped}

scans_few : GivesBounded → (script : List Statement) → IsWithin script
    → length (scans_of_all (parts_of script) (kept_of (outs_of script) (parts_of script))) + length (scans_of_all (parts_of script) (outs_of script)) ≤ 320
scans_few bounded script within =
    let env = parts_of script in
    let outs = outs_of script in
    let kept = kept_of outs env in
    let few = (bounded script within).few_scans in
    let many = length_declared (scans_of_all env kept ++ scans_of_all env outs) (flat_map scans_of (kept_trees env kept ++ out_trees env outs kept)) in
    let both = length-append (scans_of_all env kept) (scans_of_all env outs) in
    omega (arith, few, many, both)

-- room for the shared trees
pub shared_room : GivesBounded → (script : List Statement) (m : Sharing) → IsWithin script → IsSharing script m → 0 + length (scans_of_all (parts_of script) m.kept.items) ≤ 320
shared_room bounded script m within sharing =
    let few = scans_few bounded script within in
    let same : length (scans_of_all (parts_of script) m.kept.items) ≡ length (scans_of_all (parts_of script) (kept_of (outs_of script) (parts_of script))) =
    ap (λ (ks : List ℕ). length (scans_of_all (parts_of script) ks)) sharing.kept in
    omega (arith, few, same)

-- and then for those of the outputs
pub outputs_room : GivesBounded → (script : List Statement) (m : Sharing) (scans : List ScanDecl) (trees : List Expression) → IsWithin script → IsSharing script m
    → AreTreesMade script (place_in m.kept.items) m.kept.items [] scans trees → length scans + length (scans_of_all (parts_of script) m.outputs.items) ≤ 320
outputs_room bounded script m scans trees within sharing made =
    let few = scans_few bounded script within in
    let here = trees_length script (place_in m.kept.items) m.kept.items [] scans trees made in
    let same : length (scans_of_all (parts_of script) m.kept.items) ≡ length (scans_of_all (parts_of script) (kept_of (outs_of script) (parts_of script))) =
    ap (λ (ks : List ℕ). length (scans_of_all (parts_of script) ks)) sharing.kept in
    let other : length (scans_of_all (parts_of script) m.outputs.items) ≡ length (scans_of_all (parts_of script) (outs_of script)) =
    ap (λ (ks : List ℕ). length (scans_of_all (parts_of script) ks)) sharing.outputs in
    omega (arith, few, here, same, other)

-- the shared trees and then the outputs are the parts of the script's Dag
pub parts_shown : (script : List Statement) → IsPlaced script → (m : Sharing) (middle after : List ScanDecl) (shared : List Logical) (outputs : List Written) → IsSharing script m
    → AreTreesMade script (place_in m.kept.items) m.kept.items [] middle (map tree_of shared)
    → AreTreesMade script (place_in m.kept.items) m.outputs.items middle after (map (λ o. tree_of o.tree) outputs)
    → AreOutputs script m.outputs.items outputs
    → ShowsParts (dag_of script) (record { scans = after; shared = shared; outputs = outputs })
parts_shown script is_placed m middle after shared outputs sharing first second says = record {
  scans = all_scans;
  shared = kept_same;
  streams = outputs_mapped (λ (o : Written). o.name) (stream_at script) script (λ k o h. h.name) outs outputs said;
  delimiters = outputs_mapped (λ (o : Written). o.delimiter) (delimiter_at script) script (λ k o h. h.delimiter) outs outputs said;
  orders = outputs_mapped (λ (o : Written). o.order) (λ k. column_order (part_at env k)) script (λ k o h. h.order) outs outputs said;
  stored = outputs_mapped (λ (o : Written). o.stored) (λ k. column_stored (part_at env k)) script (λ k o h. h.stored) outs outputs said;
  outputs = outs_same;
}
  where
    env : List Part
    env = parts_of script

    outs : List ℕ
    outs = outs_of script

    kept : List ℕ
    kept = kept_of outs (parts_of script)

    said : AreOutputs script outs outputs
    said = subst (λ (ks : List ℕ). AreOutputs script ks outputs) sharing.outputs says

    made_kept : AreTreesMade script (place_in kept) kept [] middle (map tree_of shared)
    made_kept = subst (λ (ks : List ℕ). AreTreesMade script (place_in ks) ks [] middle (map tree_of shared)) sharing.kept first

    made_outs : AreTreesMade script (place_in kept) outs middle after (map (λ o. tree_of o.tree) outputs)
    made_outs =
        subst (λ (ks : List ℕ). AreTreesMade script (place_in kept) ks middle after (map (λ o. tree_of o.tree) outputs)) sharing.outputs
        (subst (λ (ks : List ℕ). AreTreesMade script (place_in ks) m.outputs.items middle after (map (λ o. tree_of o.tree) outputs)) sharing.kept second)

    kept_same : map tree_of shared ≡ kept_trees (parts_of script) kept
    kept_same = made_kept.trees

    behind : length middle ≡ length (scans_of_all (parts_of script) kept)
    behind = let l = trees_length script (place_in kept) kept [] middle (map tree_of shared) made_kept in omega (arith, l)

    outs_same : map (λ o. tree_of o.tree) outputs ≡ out_trees (parts_of script) outs kept
    outs_same = made_outs.trees ∙ ap (λ (n : ℕ). trees_from (place_in kept) (parts_of script) n outs) behind

    all_scans : after ≡ (dag_of script).scans
    all_scans =
        made_outs.scans
        ∙ ap (λ (l : List ScanDecl). l ++ declared_all (scans_of_all env outs) (flat_map scans_of (map (λ o. tree_of o.tree) outputs))) made_kept.scans
        ∙ sym (declared_append (scans_of_all env kept) (scans_of_all env outs) (flat_map scans_of (map tree_of shared)) (flat_map scans_of (map (λ o. tree_of o.tree) outputs)) many)
        ∙ ap (declared_all (scans_of_all env kept ++ scans_of_all env outs))
        (sym (flat_map-append scans_of (map tree_of shared) (map (λ o. tree_of o.tree) outputs)) ∙ ap₂ (λ (a b : List Expression). flat_map scans_of (a ++ b)) kept_same outs_same)
      where
        many : length (flat_map scans_of (map tree_of shared)) ≡ length (scans_of_all env kept)
        many = ap (λ (l : List Expression). length (flat_map scans_of l)) kept_same ∙ trees_many script is_placed (place_in kept) 0 kept

-- so they are within its bounds
pub parts_bounded : GivesBounded → (script : List Statement) (parts : DagParts) → IsWithin script → ShowsParts (dag_of script) parts
    → AreBounded (length parts.scans) (map tree_of parts.shared) (map (λ o. tree_of o.tree) parts.outputs)
parts_bounded bounded script parts within shows =
    subst (λ (ts : List Expression). AreBounded (length parts.scans) (map tree_of parts.shared) ts) (sym shows.outputs)
    (subst (λ (ts : List Expression). AreBounded (length parts.scans) ts (dag_of script).outputs) (sym shows.shared)
    (subst (λ (ds : List ScanDecl). AreBounded (length ds) (dag_of script).shared (dag_of script).outputs) (sym shows.scans) (bounded script within)))
