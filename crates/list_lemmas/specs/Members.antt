-- Elements of lists and where they come from.
use Rattle.std.proofs.Common.{◌≡◌, ℕ, zero, suc, ◌<◌, Bool, true, false, cond, not, List, [], ◌∷◌, map, flat_map, length, take, refl, sym, ap, subst, arith, ◌⊎◌, inl, inr}
use Rattle.std.specs.Prelude.{Contains, IsPermutation, slice_index_or}
use Rattle.std.specs.Ordering.{eq_by_cmp, is_gt}
use Rattle.std.specs.declared.cmp.Ordering.{Ordering}
use Rattle.std.proofs.lemmas.List.Sorted.{Contains-permutation, IsPermutation-sym}
use Rattle.scope_value.specs.declared.value.Value.{Value}
use Rattle.scope_value.specs.Order.{row_cmp}
use Rattle.scope_value.specs.Sorted.{sorted, insert_by}
use Rattle.structural_props.specs.Actions.{In}
use Rattle.structural_props.specs.Stand.{in_filter}
use Rattle.structural_props.specs.KeptLemmas.{in_append, in_left, in_right}
use Rattle.list_lemmas.specs.Distinct.{distinct}

module _ {X : Type 0} where
  in_place : (xs : List X) (x : X) (k : ℕ) → k < length xs → slice_index_or xs k x ≡ x → In x xs
  in_place [] x k l e = absurd (omega arith)
  in_place (y ∷ ys) x zero l e = inl (sym e)
  in_place (y ∷ ys) x (suc k) l e = inr (in_place ys x k (omega arith) e)

  -- what a list contains stands in it
  pub in_list : (xs : List X) (x : X) → Contains xs x → In x xs
  in_list xs x m = in_place xs x m.0 m.1 m.2

  -- what stands in a list is contained
  pub list_in : (xs : List X) (x : X) → In x xs → Contains xs x
  list_in [] x h = absurd h
  list_in (y ∷ ys) x (inl e) = (0, omega arith, sym e)
  list_in (y ∷ ys) x (inr h) = let m = list_in ys x h in let l : m.0 < length ys = m.1 in (suc m.0, omega arith, m.2)

  -- a permutation has all elements
  pub in_moved : (x : X) (xs ys : List X) → IsPermutation xs ys → In x xs → In x ys
  in_moved x xs ys p h = in_list ys x (Contains-permutation xs ys x p (list_in xs x h))

  -- what is inserted, or was there
  in_inserted : (cmp : X → X → Ordering) (y x : X) (xs : List X) → In x (insert_by cmp y xs) → In x (y ∷ xs)
  in_inserted cmp y x [] h = h
  in_inserted cmp y x (z ∷ zs) h = go (is_gt (cmp y z)) (in_inserted cmp y x zs) h
    where
      swapped : In x (y ∷ zs) → In x (y ∷ z ∷ zs)
      swapped (inl e) = inl e
      swapped (inr k) = inr (inr k)

      go : (b : Bool) → (In x (insert_by cmp y zs) → In x (y ∷ zs)) → In x (cond b (z ∷ insert_by cmp y zs) (y ∷ z ∷ zs)) → In x (y ∷ z ∷ zs)
      go true more (inl e) = inr (inl e)
      go true more (inr k) = swapped (more k)
      go false more k = k

  -- a sorted list has no other elements
  pub in_sorted : (cmp : X → X → Ordering) (xs : List X) (x : X) → In x (sorted cmp xs) → In x xs
  in_sorted cmp [] x h = h
  in_sorted cmp (y ∷ ys) x h = go (in_sorted cmp ys x) (in_inserted cmp y x (sorted cmp ys) h)
    where
      go : (In x (sorted cmp ys) → In x ys) → In x (y ∷ sorted cmp ys) → In x (y ∷ ys)
      go more (inl e) = inl e
      go more (inr k) = inr (more k)

  -- the first elements are elements
  pub in_first : (n : ℕ) (xs : List X) (x : X) → In x (take n xs) → In x xs
  in_first zero xs x h = absurd h
  in_first (suc n) [] x h = h
  in_first (suc n) (y ∷ ys) x (inl e) = inl e
  in_first (suc n) (y ∷ ys) x (inr h) = inr (in_first n ys x h)

  module _ {Y : Type 0} where
    -- what a map makes comes from an element
    pub in_map : (f : Y → X) (ys : List Y) (x : X) → In x (map f ys) → (y : Y) × In y ys × (x ≡ f y)
    in_map f [] x h = absurd h
    in_map f (y ∷ ys) x (inl e) = (y, inl refl, e)
    in_map f (y ∷ ys) x (inr h) = let m = in_map f ys x h in (m.0, inr m.1, m.2)

    -- and so does what a flat_map makes
    pub in_flat_map : (f : Y → List X) (ys : List Y) (x : X) → In x (flat_map f ys) → (y : Y) × In y ys × In x (f y)
    in_flat_map f [] x h = absurd h
    in_flat_map f (y ∷ ys) x h = go (in_append x (f y) (flat_map f ys) h) (in_flat_map f ys x)
      where
        go : In x (f y) ⊎ In x (flat_map f ys) → (In x (flat_map f ys) → (z : Y) × In z ys × In x (f z)) → (z : Y) × In z (y ∷ ys) × In x (f z)
        go (inl k) more = (y, inl refl, k)
        go (inr k) more = let m = more k in (m.0, inr m.1, m.2)

    -- what a flat_map makes of an element is there
    pub flat_map_in : (f : Y → List X) (ys : List Y) (y : Y) (x : X) → In y ys → In x (f y) → In x (flat_map f ys)
    flat_map_in f [] y x h k = absurd h
    flat_map_in f (z ∷ zs) y x (inl e) k = in_left x (f z) (flat_map f zs) (subst (λ (w : Y). In x (f w)) e k)
    flat_map_in f (z ∷ zs) y x (inr h) k = in_right x (f z) (flat_map f zs) (flat_map_in f zs y x h k)

-- the value of a map stands in its list
pub map_in : {X Y : Type 0} (f : X → Y) (x : X) (xs : List X) → In x xs → In (f x) (map f xs)
map_in f x [] h = absurd h
map_in f x (y ∷ ys) (inl e) = inl (ap f e)
map_in f x (y ∷ ys) (inr h) = inr (map_in f x ys h)

-- distinct rows are rows
pub in_distinct : (rows : List (List Value)) (r : List Value) → In r (distinct rows) → In r rows
in_distinct [] r h = h
in_distinct (s ∷ rows) r (inl e) = inl e
in_distinct (s ∷ rows) r (inr h) = inr (in_distinct rows r (in_filter (λ t. not (eq_by_cmp row_cmp s t)) r (distinct rows) h).0)
