-- The scripts of the tests are ones that binding can give.
use Rattle.std.proofs.Common.{◌≡◌, ℕ, List, Option, take, [], ◌∷◌, ◌++◌, map, length, None, refl, ap, sym, ◌∙◌, subst}
use Rattle.std.specs.List.{flat_map, range_with_len}
use Rattle.std.specs.Prelude.{slice_get, IfSome, IsSomeAnd, All}
use Rattle.std.proofs.lemmas.List.Elements.{All-nil, All-cons}
use Rattle.col_sets.specs.declared.dir.Dir.{Dir}
use Rattle.col_sets.specs.Sets.{columns_where}
use Rattle.logical_dag.specs.declared.dag.Dag.{Dag}
use Rattle.logical_dag.specs.declared.dag.Output.{Output}
use Rattle.logical_dag.specs.declared.dag.ScanDecl.{ScanDecl}
use Rattle.logical_dag.specs.declared.dag.Stored.{Stored}
use Rattle.logical_trees.specs.Tree.{Expression, tree_of, columns_of}
use Rattle.logical_trees.specs.Rows.{order_of}
use Rattle.logical_trees.specs.Formed.{IsOrderOver}
use Rattle.logical_dag.specs.Scripts.{shared_trees, output_trees, all_trees, scans_of, IsWritten, IsStoredOver, IsScanOver, IsOutputOver, IsBindable}
use Rattle.logical_trees.specs.Worked.{three_joined}
use Rattle.logic_tests.specs.Worked.{counted}
use Rattle.logic_tests.proofs.WorkedFormed.{counted-formed, joined-formed}

pub counted-written : (results : List (List ℕ)) → IsWritten results counted
unfolding columns_where
counted-written results = record { whole = tt; plain = refl; formed = counted-formed results; numbered = refl }

pub joined-written : (results : List (List ℕ)) → IsWritten results three_joined
joined-written results = record { whole = ((tt, tt), tt); plain = refl; formed = joined-formed results; numbered = refl }

-- a scan is over its columns
abbrev pub IsDeclared : List ScanDecl → ℕ × List ℕ → Type 0
IsDeclared scans q = IsSomeAnd (slice_get scans q.0) (IsScanOver q.1)

-- an output is over the columns of its tree
abbrev IsOver : Output → Type 0
IsOver o = IsOutputOver (columns_of (tree_of o.tree)) o

-- one without order that isn't stored
plain-over : (cols : List ℕ) (o : Output) → o.order ≡ None → o.stored ≡ None → IsOutputOver cols o
plain-over cols o order stored = (
  subst (λ (r : Option (List (ℕ × Dir))). IsOrderOver cols (order_of r)) (sym order) refl,
  subst (IsStoredOver cols) (sym stored) tt,
  subst (λ (r : Option Stored). IfSome r (λ s. o.order ≡ None)) (sym stored) tt,
)

-- a script of one output without order
pub written-bindable : (dag : Dag) (o : Output) (t : Expression) → dag.shared ≡ [] → dag.outputs ≡ o ∷ [] → tree_of o.tree ≡ t → o.order ≡ None → o.stored ≡ None → IsWritten [] t
    → map (λ s. s.0) (flat_map scans_of (t ∷ [])) ≡ range_with_len 0 (length dag.scans) → All (IsDeclared dag.scans) (flat_map scans_of (t ∷ [])) → IsBindable dag
written-bindable dag o t no_shared one_output is order stored written scans declared = record {
  shared = subst (λ (ts : List Expression). (i : ℕ) → IfSome (slice_get ts i) (IsWritten (take i (map columns_of ts)))) (sym none) (λ i. tt);
  outputs = subst (λ (ts : List Expression). All (IsWritten (map columns_of ts)) (output_trees dag)) (sym none)
      (subst (All (IsWritten [])) (sym only) (All-cons (IsWritten []) t [] written (All-nil (IsWritten []))));
  scans = ap (λ (ts : List Expression). map (λ s. s.0) (flat_map scans_of ts)) all ∙ scans;
  declared = subst (λ (ts : List Expression). All (IsDeclared dag.scans) (flat_map scans_of ts)) (sym all) declared;
  over = subst (All IsOver) (sym one_output) (All-cons IsOver o [] (plain-over (columns_of (tree_of o.tree)) o order stored) (All-nil IsOver));
}
  where
    none : shared_trees dag ≡ []
    none = ap (map tree_of) no_shared

    only : output_trees dag ≡ t ∷ []
    only = ap (map (λ (p : Output). tree_of p.tree)) one_output ∙ ap (λ (u : Expression). u ∷ []) is

    all : all_trees dag ≡ t ∷ []
    all = ap (λ (ts : List Expression). ts ++ output_trees dag) none ∙ only
