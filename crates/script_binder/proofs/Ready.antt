-- The Dag of a script that binds can be run.
use Rattle.std.proofs.Common.{◌≡◌, ℕ, zero, suc, ◌+◌, ◌<◌, ◌≤◌, List, [], ◌∷◌, ◌++◌, map, flat_map, length, take, refl, sym, ap, ap₂, ◌∙◌, arith, subst, add-zero, Option, Some, None, slice_get}
use Rattle.std.specs.Prelude.{IsSomeAnd, IfSome, All}
use Rattle.std.specs.List.{range_with_len}
use Rattle.std.proofs.lemmas.List.Elements.{All-append}
use Rattle.col_sets.specs.declared.dir.Dir.{Dir}
use Rattle.logical_dag.specs.declared.dag.Dag.{Dag}
use Rattle.logical_dag.specs.declared.dag.Output.{Output as Written}
use Rattle.logical_dag.specs.declared.dag.ScanDecl.{ScanDecl}
use Rattle.logical_dag.specs.declared.dag.Stored.{Stored}
use Rattle.logical_dag.specs.DagMeaning.{orders_of}
use Rattle.logical_dag.specs.Scripts.{IsBindable, IsWritten, IsScanOver, IsOutputOver, scans_of, shared_trees, output_trees, all_trees}
use Rattle.logical_trees.specs.Tree.{Expression, columns_of, tree_of}
use Rattle.placed_trees.specs.declared.statement.Statement.{Statement}
use Rattle.plain_meaning.specs.Plain.{AreThere}
use Rattle.plain_runner.specs.Runs.{AreDagThere}
use Rattle.script_meaning.proofs.Named.{all_none, all_more}
use Rattle.script_meaning.specs.Dag.{ScriptDag, dag_of}
use Rattle.script_meaning.specs.Written.{AreScansOver, AreOutputsOver, GivesBindable}
use Rattle.script_meaning.specs.Written as script
use Rattle.user_ops.specs.Told.{Operators}
use Rattle.binding_laws.specs.Laws.{AreBound, IsDagThere, GivesThere}
use Rattle.binding_laws.specs.There.{AreScansThere}
use Rattle.result_trees.specs.Results.{IsStanding}
use Rattle.script_binder.specs.Binding.{IsReady}
use Rattle.script_binder.specs.Shown.{Shows}

-- ---- scans by their numbers

one_more : (n i : ℕ) → n + 1 + i ≡ n + suc i
one_more n i = omega arith

scans_over : (scans : List ScanDecl) (nodes : List (ℕ × List ℕ)) (all : List ScanDecl) (n : ℕ) → AreScansOver scans nodes → map (λ (s : ℕ × List ℕ). s.0) nodes ≡ range_with_len n (length scans)
    → ((i : ℕ) → slice_get all (n + i) ≡ slice_get scans i) → All (λ (s : ℕ × List ℕ). IsSomeAnd (slice_get all s.0) (IsScanOver s.1)) nodes
scans_over [] [] all n h numbered at = all_none (λ (s : ℕ × List ℕ). IsSomeAnd (slice_get all s.0) (IsScanOver s.1))
scans_over [] (s ∷ nodes) all n h numbered at = absurd h
scans_over (d ∷ scans) [] all n h numbered at = absurd h
scans_over (d ∷ scans) (s ∷ nodes) all n h numbered at =
    let here : s.0 ≡ n = cc in
    let rest : map (λ (x : ℕ × List ℕ). x.0) nodes ≡ range_with_len (n + 1) (length scans) = cc in
    let found : slice_get all s.0 ≡ Some d = ap (slice_get all) (here ∙ sym (add-zero n)) ∙ at 0 in
    all_more (λ (x : ℕ × List ℕ). IsSomeAnd (slice_get all x.0) (IsScanOver x.1)) s nodes
    (subst (λ (o : Option ScanDecl). IsSomeAnd o (IsScanOver s.1)) (sym found) h.0)
    (scans_over scans nodes all (n + 1) h.1 rest (λ i. ap (slice_get all) (one_more n i) ∙ at (suc i)))

-- ---- outputs over their trees

outputs_over : (os : List Written) → AreOutputsOver (map (λ o. o.order) os) (map (λ o. o.stored) os) (map (λ o. tree_of o.tree) os)
    → All (λ (o : Written). IsOutputOver (columns_of (tree_of o.tree)) o) os
outputs_over [] h = all_none (λ (o : Written). IsOutputOver (columns_of (tree_of o.tree)) o)
outputs_over (o ∷ os) h = all_more (λ (p : Written). IsOutputOver (columns_of (tree_of p.tree)) p) o os h.0 (outputs_over os h.1)

-- ---- what holds of what a Dag shows holds of it

trees_shown : (d : ScriptDag) (dag : Dag) → Shows d dag → all_trees dag ≡ d.shared ++ d.outputs
trees_shown d dag shows = ap₂ (λ (a b : List Expression). a ++ b) shows.shared shows.outputs

bindable_shown : (d : ScriptDag) (dag : Dag) → script.IsBindable d → Shows d dag → IsBindable dag
bindable_shown d dag h shows = record {
  shared = λ i. subst (λ (ts : List Expression). IfSome (slice_get ts i) (IsWritten (take i (map columns_of ts)))) (sym shows.shared) (h.earlier i);
  outputs =
      subst (λ (ts : List Expression). All (IsWritten (map columns_of (shared_trees dag))) ts) (sym shows.outputs)
      (subst (λ (ts : List Expression). All (IsWritten (map columns_of ts)) d.outputs) (sym shows.shared) h.all);
  scans = numbered;
  declared = scans_over dag.scans (flat_map scans_of (all_trees dag)) dag.scans 0 over numbered (λ i. ap (slice_get dag.scans) (from_zero i));
  over =
      outputs_over dag.outputs
      (subst (λ (ts : List Expression). AreOutputsOver (map (λ o. o.order) dag.outputs) (map (λ o. o.stored) dag.outputs) ts) (sym shows.outputs)
      (subst (λ (ss : List (Option Stored)). AreOutputsOver (map (λ o. o.order) dag.outputs) ss d.outputs) (sym shows.stored)
      (subst (λ (os : List (Option (List (ℕ × Dir)))). AreOutputsOver os d.stored d.outputs) (sym shows.orders) h.over)));
}
  where
    from_zero : (i : ℕ) → 0 + i ≡ i
    from_zero i = omega arith

    numbered : map (λ (s : ℕ × List ℕ). s.0) (flat_map scans_of (all_trees dag)) ≡ range_with_len 0 (length dag.scans)
    numbered =
        ap (λ (ts : List Expression). map (λ (s : ℕ × List ℕ). s.0) (flat_map scans_of ts)) (trees_shown d dag shows) ∙ h.numbered
        ∙ ap (λ (ds : List ScanDecl). range_with_len 0 (length ds)) (sym shows.scans)

    over : AreScansOver dag.scans (flat_map scans_of (all_trees dag))
    over =
        subst (λ (ds : List ScanDecl). AreScansOver ds (flat_map scans_of (all_trees dag))) (sym shows.scans)
        (subst (λ (ts : List Expression). AreScansOver d.scans (flat_map scans_of ts)) (sym (trees_shown d dag shows)) h.declared)

there_shown : (ops : Operators) (d : ScriptDag) (dag : Dag) → All (AreThere ops) d.shared → All (AreThere ops) d.outputs → Shows d dag → AreDagThere ops dag
there_shown ops d dag h k shows = subst (All (AreThere ops)) (sym (trees_shown d dag shows)) (All-append (AreThere ops) d.shared d.outputs h k)

pub stands : (ops : Operators) (statements : List Statement) → AreBound ops statements → IsStanding statements
stands ops statements bound = record { placed = bound.placed; within = bound.within; fits = bound.fits }

pub ready : GivesBindable → GivesThere → (ops : Operators) (statements : List Statement) → AreBound ops statements → (dag : Dag) → Shows (dag_of statements) dag → IsReady ops dag
ready bindable gives_there ops statements bound dag shows =
    let there : IsDagThere ops statements = gives_there ops statements bound.there in
    record {
      bindable = bindable_shown (dag_of statements) dag (bindable statements bound.fits bound.placed) shows;
      there = there_shown ops (dag_of statements) dag there.shared there.outputs shows;
      scans = subst (AreScansThere ops) (sym shows.scans) there.scans;
    }
