-- A Dag whose trees are in their normal forms: what it keeps of the one that it was.
use Rattle.std.proofs.Common.{◌≡◌, ℕ, suc, ◌+◌, List, [], ◌∷◌, ◌++◌, map, take, length, refl, sym, ap, ap₂, ◌∙◌, subst, arith, append_assoc, Option, Some, None, Result, Ok, IfOk, slice_get, slice_index_or}
use Rattle.std.specs.Prelude.{◌↔◌, All, IfSome, IsSomeAnd}
use Rattle.std.specs.List.{AllZip, flat_map, range_with_len}
use Rattle.std.proofs.lemmas.List.{map-append}
use Rattle.std.proofs.lemmas.List.Elements.{All-nil, All-cons, All-head, All-tail, All-map}
use Rattle.std.proofs.lemmas.Option.{slice_get-map}
use Rattle.col_sets.specs.declared.dir.Dir.{Dir}
use Rattle.user_ops.specs.Told.{Operators}
use Rattle.logical_trees.specs.declared.logical.Logical.{Logical}
use Rattle.logical_trees.specs.Tree.{Expression, tree_of, columns_of}
use Rattle.logical_trees.specs.Rows.{Bag, order_of}
use Rattle.logical_trees.specs.Formed.{IsOrderOver}
use Rattle.logical_dag.specs.declared.dag.ScanDecl.{ScanDecl}
use Rattle.logical_dag.specs.declared.dag.Output.{Output}
use Rattle.logical_dag.specs.declared.dag.Dag.{Dag}
use Rattle.logical_dag.specs.declared.dag.Stored.{Stored}
use Rattle.logical_dag.specs.Bounds.{AreBounded}
use Rattle.logical_dag.specs.Scripts.{shared_trees, output_trees, all_trees, scans_of, IsWritten, IsStoredOver, IsScanOver, IsBindable}
use Rattle.logical_dag.specs.DagMeaning.{orders_of, scan_rows, TreesGive}
use Rattle.logical_dag.proofs.Placed.{formed_more}
use Rattle.normal_meaning.specs.Sinking.{normal}
use Rattle.normal_meaning.specs.Normal.{IsNormal}
use Rattle.script_meaning.specs.Dag.{ScriptDag}
use Rattle.script_meaning.specs.Laws.{Gives}
use Rattle.normal_meaning.specs.Dags.{AreFormed, normal_dag}
use Rattle.normal_meaning.proofs.Sunk.{columns_normal}
use Rattle.normal_meaning.proofs.Stuck.{normal_is}
use Rattle.normal_meaning.proofs.Bare.{written_normal, bounded_normal, scans_of_all, columns_all}
use Rattle.normal_meaning.proofs.Whole.{keeps_given}
use Rattle.normal_form.specs.Kept.{IsNormalOf, GivesSame, HasNormalTrees, IsOutputOf, AreOutputsOf}

-- ---- one after the other

-- one more tree is done
pub tree_done : (f : Logical → Expression) (done rest all : List Logical) (left : List Logical) (t new : Logical) → map f done ++ map normal (map f rest) ≡ map normal (map f all)
    → rest ≡ t ∷ left → f new ≡ normal (f t) → map f (done ++ new ∷ []) ++ map normal (map f left) ≡ map normal (map f all)
tree_done f done rest all left t new so is made =
    ap (λ (ts : List Expression). ts ++ map normal (map f left)) (map-append f done (new ∷ []))
    ∙ append_assoc (map f done) (f new ∷ []) (map normal (map f left))
    ∙ ap (λ (u : Expression). map f done ++ (u ∷ map normal (map f left))) made
    ∙ ap (λ (ts : List Logical). map f done ++ map normal (map f ts)) (sym is) ∙ so

-- one more output is done
pub output_done : (done rest all left : List Output) (o new : Output) → ((more : List Output) → AreOutputsOf rest more → AreOutputsOf all (done ++ more)) → rest ≡ o ∷ left → IsOutputOf o new
    → (more : List Output) → AreOutputsOf left more → AreOutputsOf all ((done ++ new ∷ []) ++ more)
output_done done rest all left o new so is made more h =
    subst (AreOutputsOf all) (sym (append_assoc done (new ∷ []) more)) (so (new ∷ more) (subst (λ (os : List Output). AreOutputsOf os (new ∷ more)) (sym is) (made, h)))

-- ---- outputs

-- what a field or the tree gives is the same of each
each_same : {X : Type 0} (f g : Output → X) → ((o p : Output) → IsOutputOf o p → f p ≡ g o) → (os ps : List Output) → AreOutputsOf os ps → map f ps ≡ map g os
each_same f g same [] [] h = refl
each_same f g same [] (p ∷ ps) h = absurd h
each_same f g same (o ∷ os) [] h = absurd h
each_same f g same (o ∷ os) (p ∷ ps) h = ap₂ (λ x xs. x ∷ xs) (same o p h.0) (each_same f g same os ps h.1)

trees_same : (os ps : List Output) → AreOutputsOf os ps → map (λ (p : Output). tree_of p.tree) ps ≡ map normal (map (λ (o : Output). tree_of o.tree) os)
trees_same [] [] h = refl
trees_same [] (p ∷ ps) h = absurd h
trees_same (o ∷ os) [] h = absurd h
trees_same (o ∷ os) (p ∷ ps) h = ap₂ (λ x xs. x ∷ xs) h.0.tree (trees_same os ps h.1)

-- what was made of the parts of a Dag
pub record AreMadeOf (old : Dag) (scans : List ScanDecl) (shared : List Logical) (outputs : List Output) : Type 0 where
  pub same : scans ≡ old.scans
  pub trees : map tree_of shared ≡ map normal (shared_trees old)
  pub made : AreOutputsOf old.outputs outputs

-- the trees first, and then the outputs
pub parts_made : {E : Type 0} (old : Dag) (scans scans' : List ScanDecl) (shared shared' : List Logical) (outputs outputs' : List Output) (trees : Result (List Logical) E) (written : Result (List Output) E)
    → scans ≡ old.scans → outputs ≡ old.outputs → trees ≡ Ok shared → IfOk trees (λ new. map tree_of new ≡ map normal (map tree_of old.shared))
    → scans' ≡ scans → shared' ≡ shared → written ≡ Ok outputs' → IfOk written (AreOutputsOf outputs) → AreMadeOf old scans' shared' outputs'
parts_made old scans scans' shared shared' outputs outputs' trees written s o is t s' h' is' w = record {
  same = s' ∙ s;
  trees = ap (map tree_of) h' ∙ subst (λ (r : Result (List Logical) _). IfOk r (λ new. map tree_of new ≡ map normal (map tree_of old.shared))) is t;
  made = subst (λ (os : List Output). AreOutputsOf os outputs') o (subst (λ (r : Result (List Output) _). IfOk r (AreOutputsOf outputs)) is' w);
}

pub normal_of : (old new : Dag) → AreMadeOf old new.scans new.shared new.outputs → IsNormalOf old new
normal_of old new h = record {
  scans = h.same;
  shared = h.trees;
  outputs = trees_same old.outputs new.outputs h.made;
  names = each_same (λ (o : Output). o.name) (λ (o : Output). o.name) (λ o p k. k.name) old.outputs new.outputs h.made;
  delimiters = each_same (λ (o : Output). o.delimiter) (λ (o : Output). o.delimiter) (λ o p k. k.delimiter) old.outputs new.outputs h.made;
  orders = each_same (λ (o : Output). o.order) (λ (o : Output). o.order) (λ o p k. k.order) old.outputs new.outputs h.made;
  stored = each_same (λ (o : Output). o.stored) (λ (o : Output). o.stored) (λ o p k. k.stored) old.outputs new.outputs h.made;
}

-- the bounds are kept
pub bounded_of : (old : Dag) (scans : List ScanDecl) (shared : List Logical) (outputs : List Output) → AreMadeOf old scans shared outputs
    → AreBounded (length scans) (map tree_of shared) (map (λ (o : Output). tree_of o.tree) outputs)
bounded_of old scans shared outputs h =
    rw (h.same, h.trees, trees_same old.outputs outputs h.made) (bounded_normal (length old.scans) (shared_trees old) (output_trees old) old.bounds)

-- ---- each tree is in normal form

pub all_normal : (old new : Dag) → IsNormalOf old new → HasNormalTrees new
all_normal old new h =
    let all : all_trees new ≡ map normal (all_trees old) = ap₂ (λ xs ys. xs ++ ys) h.shared h.outputs ∙ sym (map-append normal (shared_trees old) (output_trees old)) in
    subst (All IsNormal) (sym all) (All-map IsNormal normal (all_trees old) (λ k d l. normal_is (slice_index_or (all_trees old) k d)))

-- ---- it is one that binding can give

-- the columns by which the output is ordered or stored are there
abbrev IsOver : List ℕ → Option (List (ℕ × Dir)) → Option Stored → Type 0
IsOver cols order stored = IsOrderOver cols (order_of order) × IsStoredOver cols stored × IfSome stored (λ s. order ≡ None)

abbrev IsOrdered : Output → Type 0
IsOrdered o = IsOver (columns_of (tree_of o.tree)) o.order o.stored

ordered : (o p : Output) → IsOutputOf o p → IsOrdered o → IsOrdered p
ordered o p h k =
    let cols = ap columns_of h.tree ∙ columns_normal (tree_of o.tree) in
    subst (λ (xs : List ℕ). IsOver xs p.order p.stored) (sym cols)
    (subst (λ (r : Option (List (ℕ × Dir))). IsOver (columns_of (tree_of o.tree)) r p.stored) (sym h.order)
    (subst (IsOver (columns_of (tree_of o.tree)) o.order) (sym h.stored) k))

all_ordered : (os ps : List Output) → AreOutputsOf os ps → All IsOrdered os → All IsOrdered ps
all_ordered [] [] h k = All-nil IsOrdered
all_ordered [] (p ∷ ps) h k = absurd h
all_ordered (o ∷ os) [] h k = absurd h
all_ordered (o ∷ os) (p ∷ ps) h k = All-cons IsOrdered p ps (ordered o p h.0 (All-head IsOrdered o os k)) (all_ordered os ps h.1 (All-tail IsOrdered o os k))

-- the shared trees refer to earlier ones alone
earlier_normal : (ts : List Expression) → ((i : ℕ) → IfSome (slice_get ts i) (IsWritten (take i (map columns_of ts))))
    → (i : ℕ) → IfSome (slice_get (map normal ts) i) (IsWritten (take i (map columns_of (map normal ts))))
earlier_normal ts h i = go (slice_get ts i) refl
  where
    go : (o : Option Expression) → slice_get ts i ≡ o → IfSome (slice_get (map normal ts) i) (IsWritten (take i (map columns_of (map normal ts))))
    go None e = rw (slice_get-map normal ts i, e) tt
    go (Some t) e =
        let w : IsWritten (take i (map columns_of ts)) t = subst (λ (o : Option Expression). IfSome o (IsWritten (take i (map columns_of ts)))) e (h i) in
        rw (slice_get-map normal ts i, e, columns_all ts) (written_normal (take i (map columns_of ts)) t w)

written_all : (results : List (List ℕ)) (ts : List Expression) → All (IsWritten results) ts → All (IsWritten results) (map normal ts)
written_all results ts h = All-map (IsWritten results) normal ts (λ k d l. written_normal results (slice_index_or ts k d) (h k d l))

-- a scan is over the columns of its node
abbrev HasSchema : List ScanDecl → ℕ × List ℕ → Type 0
HasSchema scans q = IsSomeAnd (slice_get scans q.0) (IsScanOver q.1)

-- the same scans
scans_kept : (old new : Dag) → IsNormalOf old new → flat_map scans_of (all_trees new) ≡ flat_map scans_of (all_trees old)
scans_kept old new h = ap₂ (λ (ts us : List Expression). flat_map scans_of (ts ++ us)) h.shared h.outputs ∙ scans_of_all (shared_trees old) (output_trees old)

pub bindable_of : (old new : Dag) → AreMadeOf old new.scans new.shared new.outputs → IsBindable old → IsBindable new
bindable_of old new m b = let h = normal_of old new m in let same = scans_kept old new h in record {
  shared = subst (λ (ts : List Expression). (i : ℕ) → IfSome (slice_get ts i) (IsWritten (take i (map columns_of ts)))) (sym h.shared) (earlier_normal (shared_trees old) b.shared);
  outputs = subst (λ (ts : List Expression). All (IsWritten (map columns_of ts)) (output_trees new)) (sym h.shared)
      (subst (All (IsWritten (map columns_of (map normal (shared_trees old))))) (sym h.outputs)
      (subst (λ (results : List (List ℕ)). All (IsWritten results) (map normal (output_trees old))) (sym (columns_all (shared_trees old)))
      (written_all (map columns_of (shared_trees old)) (output_trees old) b.outputs)));
  scans = ap (map (λ (s : ℕ × List ℕ). s.0)) same ∙ b.scans ∙ ap (λ (scans : List ScanDecl). range_with_len 0 (length scans)) (sym h.scans);
  declared = subst (λ (scans : List ScanDecl). All (HasSchema scans) (flat_map scans_of (all_trees new))) (sym h.scans) (subst (All (HasSchema old.scans)) (sym same) b.declared);
  over = all_ordered old.outputs new.outputs m.made b.over;
}

-- ---- it gives the same rows

formed_all : (results : List (List ℕ)) (ts : List Expression) → All (IsWritten results) ts → AreFormed results ts
formed_all results [] h = tt
formed_all results (t ∷ ts) h = ((All-head (IsWritten results) t ts h).formed, formed_all results ts (All-tail (IsWritten results) t ts h))

formed_each : (results : List (List ℕ)) (ts : List Expression) (n : ℕ) → ((i : ℕ) → IfSome (slice_get ts i) (IsWritten (take (n + i) results))) → AreFormed results ts
formed_each results [] n h = tt
formed_each results (t ∷ ts) n h = (
  formed_more (n + 0) results t (h 0).formed,
  formed_each results ts (n + 1) (λ i. let e : n + suc i ≡ n + 1 + i = omega arith in subst (λ (k : ℕ). IfSome (slice_get ts i) (IsWritten (take k results))) e (h (suc i))),
)

there : (ops : Operators) (s s' : List Bag) (t t' : List Expression) (r r' : List (Option (List (ℕ × Dir)))) (u u' : List Expression) (rows : List Bag)
    → s' ≡ s → t' ≡ t → r' ≡ r → u' ≡ u → TreesGive ops s t r u rows → TreesGive ops s' t' r' u' rows
there ops s s' t t' r r' u u' rows a b c d h = rw (a, b, c, d) h

-- the Dag as the laws on scripts see it
abbrev script_dag : Dag → ScriptDag
script_dag dag = record { scans = dag.scans; shared = shared_trees dag; streams = []; delimiters = []; orders = orders_of dag; stored = map (λ (o : Output). o.stored) dag.outputs; outputs = output_trees dag }

kept : (old : Dag) (ops : Operators) (input : ScanDecl → Bag) (rows : List Bag) → IsBindable old → Gives ops input (script_dag old) rows ↔ Gives ops input (normal_dag (script_dag old)) rows
kept old ops input rows b =
    let results : List (List ℕ) = map columns_of (shared_trees old) in
    keeps_given ops input (script_dag old) rows results
    (formed_each results (shared_trees old) 0 (λ i. let e : i ≡ 0 + i = omega arith in subst (λ (k : ℕ). IfSome (slice_get (shared_trees old) i) (IsWritten (take k results))) e (b.shared i)))
    (formed_all results (output_trees old) b.outputs)

pub gives_same : (old new : Dag) → IsNormalOf old new → IsBindable old → GivesSame old new
gives_same old new h b ops input rows =
    let scans : map (scan_rows input) new.scans ≡ map (scan_rows input) old.scans = ap (map (scan_rows input)) h.scans in (
      λ g. there ops (map (scan_rows input) old.scans) (map (scan_rows input) new.scans) (map normal (shared_trees old)) (shared_trees new) (orders_of old) (orders_of new) (map normal (output_trees old)) (output_trees new) rows
          scans h.shared h.orders h.outputs ((kept old ops input rows b).0 g),
      λ g. (kept old ops input rows b).1
          (there ops (map (scan_rows input) new.scans) (map (scan_rows input) old.scans) (shared_trees new) (map normal (shared_trees old)) (orders_of new) (orders_of old) (output_trees new) (map normal (output_trees old)) rows
          (sym scans) (sym h.shared) (sym h.orders) (sym h.outputs) g),
    )
