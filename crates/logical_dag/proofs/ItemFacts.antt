-- The equalities that items state which are one plain column, one after the other.
use Rattle.std.proofs.Common.{◌≡◌, ◌≢◌, ℕ, zero, suc, ◌+◌, ◌<◌, ◌≤◌, Bool, true, false, List, [], ◌∷◌, length, refl, sym, ap, ◌∙◌, subst, arith, ◌⊎◌, inl, inr, nat_eq, nat_lt, Option, Some, None, slice_get, slice_index_or}
use Rattle.std.proofs.lemmas.Bool.Decides.{nat_tests}
use Rattle.std.specs.Prelude.{IsSomeAnd, position}
use Rattle.std.specs.List.{position_or_len}
use Rattle.std.proofs.lemmas.List.Quantifiers.{position-Some}
use Rattle.std.proofs.lemmas.Option.{slice_get-get_or}
use Rattle.col_sets.specs.Sets.{IsColumnSet}
use Rattle.col_sets.specs.Columns.{has_below}
use Rattle.col_sets.specs.Tests.{from_test}
use Rattle.scope_expr.specs.declared.expr.Expr.{Expr}
use Rattle.scope_expr.specs.declared.expr.Expr.TheVariants.{Literal, Col, Neg', Not', Pair'}
use Rattle.scope_value.specs.declared.value.Value.TheVariants.{Null}
use Rattle.fd_closure.specs.declared.facts.Facts.{Facts}
use Rattle.fd_closure.specs.Known.{equal_of}
use Rattle.logical_dag.specs.Facts.{IsLinked, stated, turned, chained, is_column, AreSameItem}
use Rattle.logical_dag.specs.Known.{IsOwn, AreClasses, IsItem, IsItemEquated}
use Rattle.logical_trees.specs.ColumnLemmas.{has_at}
use Rattle.logical_dag.proofs.Either.{either_second}
use Rattle.logical_dag.proofs.Classes.{linked_same, classes_same, classes_merged, classes_kept}

-- an item is one plain column at most
pub item_one : (items : List Expr) (i b c : ℕ) → IsItem items i b → IsItem items i c → b ≡ c
item_one items i b c h k = go (slice_get items i) h k
  where
    column : (e : Expr) → is_column b e ≡ true → is_column c e ≡ true → b ≡ c
    column (Col d j) p q = from_test b d p ∙ sym (from_test c d q)
    column (Literal v) p q = absurd (cc)
    column (Neg' s a) p q = absurd (cc)
    column (Not' s a) p q = absurd (cc)
    column (Pair' op s a t d) p q = absurd (cc)

    go : (o : Option Expr) → IsSomeAnd o (λ e. is_column b e ≡ true) → IsSomeAnd o (λ e. is_column c e ≡ true) → b ≡ c
    go None p q = absurd p
    go (Some e) p q = column e p q

-- an item stands in the list
pub item_within : (items : List Expr) (i b : ℕ) → IsItem items i b → i < length items
item_within [] i b h = absurd h
item_within (e ∷ items) zero b h = omega arith
item_within (e ∷ items) (suc i) b h = let l = item_within items i b h in omega arith

-- it passes the test that looks for its column
pub item_passes : (items : List Expr) (i b : ℕ) (d : Expr) → IsItem items i b → is_column b (slice_index_or items i d) ≡ true
item_passes [] i b d h = absurd h
item_passes (e ∷ items) zero b d h = h
item_passes (e ∷ items) (suc i) b d h = item_passes items i b d h

-- where an item is the column, the first such item stands in the list
some_place : (items : List Expr) (b i : ℕ) → IsItem items i b → position_or_len (is_column b) items < length items
some_place [] b i h = absurd h
some_place (e ∷ items) b i h = go (some_place items b) i h (is_column b e) refl
  where
    go : ((k : ℕ) → IsItem items k b → position_or_len (is_column b) items < length items) → (i : ℕ) → IsItem (e ∷ items) i b → (t : Bool) → is_column b e ≡ t → position_or_len (is_column b) (e ∷ items) < length (e ∷ items)
    go later i h true t = rw t (omega arith)
    go later zero h false t = absurd (cc)
    go later (suc k) h false t = let l = later k h in rw t (omega arith)

-- where no item is found, none is the column
pub no_place : (items : List Expr) (b : ℕ) → position (is_column b) items ≡ None → (i : ℕ) → IsItem items i b → ⊥
no_place items b e i h =
    let l = some_place items b i h in
    let there : nat_lt (position_or_len (is_column b) items) (length items) ≡ true = grind (arith, nat_tests) in
    let none : Some (position_or_len (is_column b) items) ≡ None = (rw there at e) in
    absurd (cc)

-- the place that is found is an item's, and the first
pub first_place : (items : List Expr) (b i : ℕ) → position (is_column b) items ≡ Some i → IsItem items i b × ((k : ℕ) → k < i → IsItem items k b → ⊥)
first_place items b i e =
    let first = position-Some (is_column b) items i (Literal Null) e in (
      subst (λ (o : Option Expr). IsSomeAnd o (λ e. is_column b e ≡ true)) (sym (slice_get-get_or items i (Literal Null) first.0)) first.1,
      λ k l h. let passes = item_passes items k b (Literal Null) h in let fails = first.2 k l in absurd (cc),
    )

-- the item that is the column is at the place
pub item_is : (items : List Expr) (j b : ℕ) (e : Expr) → slice_get items j ≡ Some e → is_column b e ≡ true → IsItem items j b
item_is items j b e at is = subst (λ (o : Option Expr). IsSomeAnd o (λ e. is_column b e ≡ true)) (sym at) is

-- a column before one that is there is there
pub column_before : (cols : List ℕ) (i j d : ℕ) → i < j → slice_get cols j ≡ Some d → slice_get cols i ≡ None → ⊥
column_before [] i j d l h k = absurd (cc)
column_before (c ∷ cols) zero j d l h k = absurd (cc)
column_before (c ∷ cols) (suc i) zero d l h k = absurd (omega arith)
column_before (c ∷ cols) (suc i) (suc j) d l h k = column_before cols i j d (omega arith) h k

-- two items below a place are one plain column
abbrev pub SameItemsBelow : List Expr → List ℕ → ℕ → ℕ → ℕ → Type 0
SameItemsBelow items cols n c d = (i j b : ℕ) × ((i < n) × (j < n)) × (slice_get cols i ≡ Some c) × (slice_get cols j ≡ Some d) × IsItem items i b × IsItem items j b

module _ (into : Facts) (items : List Expr) (cols : List ℕ) (own : IsOwn into) where
  pub items_first : AreClasses into (λ c d. (equal_of into c d ≡ true) ⊎ SameItemsBelow items cols 0 c d)
  items_first = classes_kept into (SameItemsBelow items cols 0) own (λ c d m. let l : m.0 < 0 = m.3.0 in omega arith)

  abbrev pub Items : ℕ → ℕ → ℕ → Type 0
  Items n c d = (equal_of into c d ≡ true) ⊎ SameItemsBelow items cols n c d

  pub items_step : (n : ℕ) (f g : Facts) → IsColumnSet cols → IsItemEquated items cols n f g → AreClasses f (Items n) → AreClasses g (Items (n + 1))
  items_step n f g set step h = go step
    where
      grows : (c d : ℕ) → Items n c d → Items (n + 1) c d
      grows c d (inl m) = inl m
      grows c d (inr m) =
          let l : m.0 < n = m.3.0 in
          let k : m.1 < n = m.3.1 in
          inr (m.0, m.1, m.2, (omega arith, omega arith), m.4, m.5, m.6, m.7)

      -- links for the pairs of the last item with those before it give links for all
      links : (Q : ℕ → ℕ → Type 0) → ((c d : ℕ) → Items n c d → IsLinked Q c d)
          → ((k b x y : ℕ) → k < n → slice_get cols k ≡ Some x → slice_get cols n ≡ Some y → IsItem items k b → IsItem items n b → IsLinked Q x y) → (x y : ℕ) → Items (n + 1) x y → IsLinked Q x y
      links Q below last x y (inl m) = below x y (inl m)
      links Q below last x y (inr m) = pairs m.0 m.1 m.2 m.3.0 m.3.1 m.4 m.5 m.6 m.7 (nat_eq m.0 n) refl (nat_eq m.1 n) refl
        where
          pairs : (i j b : ℕ) → i < n + 1 → j < n + 1 → slice_get cols i ≡ Some x → slice_get cols j ≡ Some y → IsItem items i b → IsItem items j b → (s : Bool) → nat_eq i n ≡ s → (t : Bool) → nat_eq j n ≡ t → IsLinked Q x y
          pairs i j b l k p q u v true s true t =
              let e : Some x ≡ Some y = sym p ∙ ap (slice_get cols) (from_test i n s ∙ sym (from_test j n t)) ∙ q in
              linked_same Q x y (cc)
          pairs i j b l k p q u v true s false t =
              let same : i ≡ n = from_test i n s in
              let other : j ≢ n = grind (arith, nat_tests) in
              turned (last j b y x (omega arith) q (subst (λ (a : ℕ). slice_get cols a ≡ Some x) same p) v (subst (λ (a : ℕ). IsItem items a b) same u))
          pairs i j b l k p q u v false s true t =
              let same : j ≡ n = from_test j n t in
              let other : i ≢ n = grind (arith, nat_tests) in
              last i b x y (omega arith) p (subst (λ (a : ℕ). slice_get cols a ≡ Some y) same q) u (subst (λ (a : ℕ). IsItem items a b) same v)
          pairs i j b l k p q u v false s false t =
              let other : i ≢ n = grind (arith, nat_tests) in
              let another : j ≢ n = grind (arith, nat_tests) in
              below x y (inr (i, j, b, (omega arith, omega arith), p, q, u, v))

      go : IsItemEquated items cols n f g → AreClasses g (Items (n + 1))
      go (inl m) =
          subst (λ (k : Facts). AreClasses k (Items (n + 1))) (sym m.0)
          (classes_same f (Items n) h (Items (n + 1)) (λ c d k. stated (grows c d k))
          (links (Items n) (λ c d k. stated k) (λ k b x y l p q u v. absurd (m.1 k b y l q u v))))
      go (inr m) =
          classes_same g (λ c d. Items n c d ⊎ ((c ≡ m.2) × (d ≡ m.3)))
          (classes_merged f (Items n) h m.2 m.3 g (has_below cols set m.2 (has_at cols m.0 m.2 m.5)) (has_below cols set m.3 (has_at cols n m.3 m.6)) m.9)
          (Items (n + 1)) forth
          (links (λ c d. Items n c d ⊎ ((c ≡ m.2) × (d ≡ m.3))) (λ c d k. stated (inl k)) last)
        where
          forth : (c d : ℕ) → Items n c d ⊎ ((c ≡ m.2) × (d ≡ m.3)) → IsLinked (Items (n + 1)) c d
          forth c d (inl k) = stated (grows c d k)
          forth c d (inr k) =
              let l : m.0 < n = m.4 in
              stated (inr (m.0, n, m.1, (omega arith, omega arith), m.5 ∙ ap Some (sym k.0), m.6 ∙ ap Some (sym k.1), m.7, m.8))

          last : (k b x y : ℕ) → k < n → slice_get cols k ≡ Some x → slice_get cols n ≡ Some y → IsItem items k b → IsItem items n b → IsLinked (λ c d. Items n c d ⊎ ((c ≡ m.2) × (d ≡ m.3))) x y
          last k b x y l p q u v =
              let e : Some y ≡ Some m.3 = sym q ∙ m.6 in
              let i : y ≡ m.3 = cc in
              let b_is : b ≡ m.1 = item_one items n b m.1 v m.8 in
              chained (stated (inl (inr (k, m.0, b, (l, m.4), p, m.5, u, subst (λ (a : ℕ). IsItem items m.0 a) (sym b_is) m.7)))) (stated (inr (refl, i)))

  pub items_done : (n : ℕ) (f : Facts) → length items ≤ n → AreClasses f (Items n) → AreClasses f (λ c d. (equal_of into c d ≡ true) ⊎ AreSameItem items cols c d)
  items_done n f l h = classes_same f (Items n) h (λ c d. (equal_of into c d ≡ true) ⊎ AreSameItem items cols c d) (λ c d m. stated (either_second (λ k. (k.0, k.1, k.2, k.4, k.5, k.6, k.7)) m)) (λ c d m. stated (either_second (back c d) m))
    where
      back : (c d : ℕ) → AreSameItem items cols c d → SameItemsBelow items cols n c d
      back c d m =
          let i = item_within items m.0 m.2 m.5 in
          let j = item_within items m.1 m.2 m.6 in
          (m.0, m.1, m.2, (omega arith, omega arith), m.3, m.4, m.5, m.6)
