-- A Dag and its normal form give the same rows.
use Rattle.std.proofs.Common.{◌≡◌, ℕ, List, [], ◌∷◌, map, suc, ◌+◌, take, slice_get, subst, arith}
use Rattle.user_ops.specs.Told.{Operators}
use Rattle.logical_trees.specs.Tree.{Expression, columns_of}
use Rattle.logical_trees.specs.Rows.{Bag}
use Rattle.script_meaning.specs.Dag.{dag_of}
use Rattle.logical_dag.specs.DagMeaning.{HaveSameBags, scan_rows}
use Rattle.logical_dag.specs.DagMeaningLemmas.{gives_same}
use Rattle.logical_dag.proofs.Placed.{formed_more}
use Rattle.logical_trees.specs.SameLemmas.{same_turned}
use Rattle.script_meaning.specs.Laws.{meaning, Gives, FitsColumns}
use Rattle.script_meaning.proofs.Given.{gives_meaning}
use Rattle.script_meaning.proofs.Whole.{gives_bindable}
use Rattle.script_meaning.proofs.OneResult.{gives_meaning_alone}
use Rattle.std.specs.Prelude.{◌↔◌}
use Rattle.logical_dag.specs.declared.dag.ScanDecl.{ScanDecl}
use Rattle.placed_trees.specs.declared.statement.Statement.{Statement}
use Rattle.script_meaning.specs.Placed.{IsPlaced}
use Rattle.normal_meaning.proofs.Bare.{bindable_normal}
use Rattle.std.specs.Prelude.{IfSome, All}
use Rattle.logical_dag.specs.Scripts.{IsWritten}
use Rattle.normal_meaning.specs.Sinking.{normal}
use Rattle.normal_meaning.specs.Dags.{normal_dag, AreFormed, KeepsGiven, NormalGivesMeaning, NormalGivesAlone, NormalIsBindable}
use Rattle.normal_meaning.proofs.Sunk.{normal_same}

module _ (results : List (List ℕ)) where
  normal_there : (ts : List Expression) → AreFormed results ts → HaveSameBags ts (map normal ts)
  normal_there [] f = tt
  normal_there (t ∷ ts) f = (normal_same results t f.0, normal_there ts f.1)

  normal_back : (ts : List Expression) → AreFormed results ts → HaveSameBags (map normal ts) ts
  normal_back [] f = tt
  normal_back (t ∷ ts) f = (same_turned t (normal t) (normal_same results t f.0), normal_back ts f.1)

pub keeps_given : KeepsGiven
keeps_given ops input d rows results f g = (
  gives_same ops (map (scan_rows input) d.scans) d.shared (map normal d.shared) d.orders d.outputs (map normal d.outputs) rows (normal_there results d.shared f) (normal_there results d.outputs g),
  gives_same ops (map (scan_rows input) d.scans) (map normal d.shared) d.shared d.orders (map normal d.outputs) d.outputs rows (normal_back results d.shared f) (normal_back results d.outputs g),
)

-- ---- the Dag of a script

all_formed : (results : List (List ℕ)) (ts : List Expression) → All (IsWritten results) ts → AreFormed results ts
all_formed results [] h = tt
all_formed results (t ∷ ts) h = ((h 0 t (omega arith)).formed, all_formed results ts (λ k d l. h (suc k) d (omega arith)))

each_formed : (results : List (List ℕ)) (ts : List Expression) (n : ℕ) → ((i : ℕ) → IfSome (slice_get ts i) (IsWritten (take (n + i) results))) → AreFormed results ts
each_formed results [] n h = tt
each_formed results (t ∷ ts) n h = (
  formed_more (n + 0) results t (h 0).formed,
  each_formed results ts (n + 1) (λ i. let e : n + suc i ≡ n + 1 + i = omega arith in subst (λ (k : ℕ). IfSome (slice_get ts i) (IsWritten (take k results))) e (h (suc i))),
)

-- a script's Dag and its normal form give the same rows
script_kept : (ops : Operators) (input : ScanDecl → Bag) (script : List Statement) (rows : List Bag) → FitsColumns script → IsPlaced script
    → Gives ops input (dag_of script) rows ↔ Gives ops input (normal_dag (dag_of script)) rows
script_kept ops input script rows fits placed =
    let b = gives_bindable script fits placed in
    let results : List (List ℕ) = map columns_of (dag_of script).shared in
    keeps_given ops input (dag_of script) rows results
    (each_formed results (dag_of script).shared 0 (λ i. let e : i ≡ 0 + i = omega arith in subst (λ (k : ℕ). IfSome (slice_get (dag_of script).shared i) (IsWritten (take k results))) e (b.earlier i)))
    (all_formed results (dag_of script).outputs b.all)

pub normal_gives : NormalGivesMeaning
normal_gives ops input script fits placed told = (script_kept ops input script (meaning ops input script) fits placed).0 (gives_meaning ops input script fits told)

pub normal_alone : NormalGivesAlone
normal_alone ops input script rows fits placed told h = gives_meaning_alone ops input script rows fits placed told ((script_kept ops input script rows fits placed).1 h)

pub normal_bindable : NormalIsBindable
normal_bindable script fits placed = bindable_normal (dag_of script) (gives_bindable script fits placed)
