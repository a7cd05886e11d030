-- The facts of the shared results of a script hold of their bags, and so do the facts at its places.
use Rattle.std.proofs.Common.{◌≡◌, ℕ, zero, suc, ◌<◌, ◌≤◌, List, [], ◌∷◌, map, take, length, refl, sym, ap, ap₂, ◌∙◌, subst, arith, Option, Some, None, slice_get}
use Rattle.std.specs.Prelude.{IsSomeAnd, IfSome}
use Rattle.std.specs.List.{take-map}
use Rattle.col_sets.specs.Sets.{IsColumnSet}
use Rattle.fd_closure.specs.declared.facts.Facts.{Facts}
use Rattle.fd_closure.specs.Hold.{FactsHold}
use Rattle.user_ops.specs.Told.{Operators}
use Rattle.logical_dag.specs.declared.dag.Dag.{Dag}
use Rattle.logical_dag.specs.declared.place.Place.{Place}
use Rattle.logical_trees.specs.declared.logic_op.LogicOp.TheVariants.{Ref}
use Rattle.logical_trees.specs.Tree.{Expression, leaf, one, two, columns_of}
use Rattle.logical_trees.specs.Meaning.{Sources, bag_at}
use Rattle.logical_dag.specs.Facts.{AreFactsOf}
use Rattle.logical_trees.specs.Formed.{IsFormed}
use Rattle.logical_dag.specs.Laws.{LentHold, lent_columns}
use Rattle.logical_dag.specs.Known.{IsLentSet}
use Rattle.logical_dag.specs.Scripts.{shared_trees, IsWritten, IsBindable}
use Rattle.logical_dag.specs.Places.{AreSharedFacts, AreFactsAt, StandsOver, SharedStand, HoldAt}
use Rattle.logical_trees.specs.ColumnLemmas.{columns_set}
use Rattle.logical_dag.proofs.KnownHold.{facts_hold}
use Rattle.logical_dag.proofs.Placed.{some_and, if_some, got_first, shared_columns, place_formed}
use Rattle.std.proofs.lemmas.List.{take_all, length-map}

-- the first facts are over the columns of the first trees
pub first_columns : (n : ℕ) (trees : List Expression) (known : List Facts) → n ≤ length trees → n ≤ length known
    → ((i : ℕ) → i < n → IfSome (slice_get trees i) (λ t. IsSomeAnd (slice_get known i) (λ f. f.columns ≡ columns_of t))) → take n (map columns_of trees) ≡ lent_columns (take n known)
first_columns zero trees known l m h = refl
first_columns (suc n) [] known l m h = absurd (omega arith)
first_columns (suc n) (t ∷ trees) [] l m h = absurd (omega arith)
first_columns (suc n) (t ∷ trees) (f ∷ known) l m h = ap₂ ◌∷◌ (sym (h 0 (omega arith))) (first_columns n trees known (omega arith) (omega arith) (λ i k. h (suc i) (omega arith)))

-- and all are, where there are as many
columns_lent : (trees : List Expression) (known : List Facts) → length known ≡ length trees
    → ((i : ℕ) → IfSome (slice_get trees i) (λ t. IsSomeAnd (slice_get known i) (λ f. f.columns ≡ columns_of t))) → map columns_of trees ≡ lent_columns known
columns_lent trees known e h =
    let n = length known in
    sym (take_all n (map columns_of trees) (let l = length-map trees columns_of in omega (arith, l, e)))
    ∙ first_columns n trees known (omega (arith, e)) (omega arith) (λ i l. h i)
    ∙ ap lent_columns (take_all n known (omega arith))

-- where there is no tree, there are no facts
no_more : {X Y : Type 0} (xs : List X) (ys : List Y) (i : ℕ) (y : Y) → length ys ≡ length xs → slice_get ys i ≡ Some y → (x : X) × (slice_get xs i ≡ Some x)
no_more xs [] i y e h = absurd (cc)
no_more [] (z ∷ ys) i y e h = absurd (omega arith)
no_more (x ∷ xs) (z ∷ ys) zero y e h = (x, refl)
no_more (x ∷ xs) (z ∷ ys) (suc i) y e h = no_more xs ys i y (omega arith) h

-- facts over sets of columns are lent to any tree
lent_sets : (shared : List Facts) → ((i : ℕ) → IfSome (slice_get shared i) (λ f. IsColumnSet f.columns)) → (t : Expression) → IsLentSet shared t
lent_sets shared h (leaf (Ref i cols)) = h i
lent_sets shared h (leaf op) = tt
lent_sets shared h (one op t) = lent_sets shared h t
lent_sets shared h (two op t u) = (lent_sets shared h t, lent_sets shared h u)

-- what is said of what stands at a place, where something does
pub to_if : {X : Type 0} (o : Option X) (P : X → Type 0) → ((x : X) → o ≡ Some x → P x) → IfSome o P
to_if None P h = tt
to_if (Some x) P h = h x refl

module _ (dag : Dag) (bound : IsBindable dag) (shared : List Facts) (known : AreSharedFacts dag shared) where
  -- the tree of a shared result with its facts
  shared_at : (i : ℕ) (f : Facts) → slice_get shared i ≡ Some f → (t : Expression) × (slice_get (shared_trees dag) i ≡ Some t) × AreFactsOf (take i shared) t f
  shared_at i f h =
      let t = no_more (shared_trees dag) shared i f known.each_one h in
      let g = some_and (slice_get shared i) (AreFactsOf (take i shared) t.0) (if_some (slice_get (shared_trees dag) i) _ t.0 t.1 (known.facts i)) in
      let same : g.0 ≡ f = (let e : Some g.0 ≡ Some f = sym g.1 ∙ h in cc) in
      (t.0, t.1, subst (λ k. AreFactsOf (take i shared) t.0 k) same g.2)

  -- the facts are over the columns of the trees
  pub shared_lent : shared_columns dag ≡ lent_columns shared
  shared_lent = columns_lent (shared_trees dag) shared known.each_one (λ i. each i (slice_get (shared_trees dag) i) (slice_get shared i) (known.facts i))
    where
      inner : (i : ℕ) (t : Expression) (p : Option Facts) → IsSomeAnd p (AreFactsOf (take i shared) t) → IsSomeAnd p (λ f. f.columns ≡ columns_of t)
      inner i t None h = h
      inner i t (Some f) h = h.columns

      each : (i : ℕ) (o : Option Expression) (p : Option Facts) → IfSome o (λ t. IsSomeAnd p (AreFactsOf (take i shared) t)) → IfSome o (λ t. IsSomeAnd p (λ f. f.columns ≡ columns_of t))
      each i None p h = tt
      each i (Some t) p h = inner i t p h

  -- each tree is formed over the earlier ones' facts
  shared_formed : (i : ℕ) (t : Expression) → slice_get (shared_trees dag) i ≡ Some t → IsFormed (lent_columns (take i shared)) t
  shared_formed i t h =
      let written : IsWritten (take i (shared_columns dag)) t = if_some (slice_get (shared_trees dag) i) (IsWritten (take i (shared_columns dag))) t h (bound.shared i) in
      subst (λ (results : List (List ℕ)). IsFormed results t) (ap (take i) shared_lent ∙ take-map (λ f. f.columns) i shared) written.formed

  -- the facts are over sets of columns
  shared_sets : (i : ℕ) (f : Facts) → slice_get shared i ≡ Some f → IsColumnSet f.columns
  shared_sets i f h =
      let t = shared_at i f h in
      subst (λ (s : List ℕ). IsColumnSet s) (sym t.2.columns) (columns_set (lent_columns (take i shared)) t.0 (shared_formed i t.0 t.1))

  module _ (ops : Operators) (from : Sources) (stand : SharedStand dag ops from) where
    stand_at : (i : ℕ) (t : Expression) → slice_get (shared_trees dag) i ≡ Some t → StandsOver ops from t (bag_at from.shared i)
    stand_at i t h = if_some (slice_get (shared_trees dag) i) (λ u. StandsOver ops from u (bag_at from.shared i)) t h (stand i)

    -- those of the first results hold
    first_hold : (n i : ℕ) (f : Facts) → i < n → slice_get shared i ≡ Some f → FactsHold f (bag_at from.shared i)
    first_hold zero i f l h = absurd (omega arith)
    first_hold (suc n) i f l h =
        let t = shared_at i f h in
        let sets = lent_sets (take i shared) (λ j. to_if (slice_get (take i shared) j) (λ g. IsColumnSet g.columns) (λ g k. shared_sets j g (got_first i shared j g k).1)) t.0 in
        facts_hold (take i shared) (lent_columns (take i shared)) t.0 f (shared_formed i t.0 t.1) sets t.2 ops from (bag_at from.shared i)
        (λ j. to_if (slice_get (take i shared) j) (λ g. FactsHold g (bag_at from.shared j)) (λ g k. let m = got_first i shared j g k in let less : j < i = m.0 in first_hold n j g (omega arith) m.1))
        (stand_at i t.0 t.1).0 (stand_at i t.0 t.1).1

    -- all of them hold
    pub shared_hold : LentHold shared from
    shared_hold i = to_if (slice_get shared i) (λ f. FactsHold f (bag_at from.shared i)) (λ f h. first_hold (suc i) i f (omega arith) h)

-- the facts at a place hold
pub hold_at : (dag : Dag) (place : Place) (f : Facts) → IsBindable dag → AreFactsAt dag place f → HoldAt dag place f
hold_at dag place f bound at ops from t A stand is stands =
    let shared = at.0 in
    let known = at.1 in
    facts_hold shared (shared_columns dag) t f (place_formed dag bound place t is)
    (lent_sets shared (λ i. to_if (slice_get shared i) (λ g. IsColumnSet g.columns) (λ g h. shared_sets dag bound shared known i g h)) t)
    (at.2 t is) ops from A (shared_hold dag bound shared known ops from stand) stands.0 stands.1
