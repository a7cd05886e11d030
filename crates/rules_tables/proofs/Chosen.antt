-- The leaves of a block that are in a set, by the bits of a mask.
use Rattle.std.proofs.Common.{◌≡◌, ◌<◌, ◌+◌, ◌*◌, ◌/◌, ◌%◌, ℕ, Bool, true, false, cond, nat_eq, List, [], ◌∷◌, ◌++◌, map, flat_map, arith, refl, sym, ap, ◌∙◌, subst, ◌⊎◌, inl, inr, Some, IsPermutation}
use Rattle.std.proofs.lemmas.List.Sorted.{IsPermutation-sym, IsPermutation-trans, IsPermutation-map, length_permutation}
use Rattle.col_sets.specs.Tests.{or_left, or_right}
use Rattle.col_sets.specs.Tests as tests
use Rattle.structural_props.specs.Actions.{In}
use Rattle.structural_props.specs.KeptLemmas.{in_append, in_right}
use Rattle.logical_trees.specs.declared.logic_op.LogicOp.TheVariants.{Join}
use Rattle.logical_trees.specs.Tree.{Expression, leaf, one, two}
use Rattle.logical_trees.specs.Blocks.{chosen, IsJoinOf}
use Rattle.logical_trees.specs.Blocks as joins
use Rattle.list_lemmas.specs.Bags.{flat_map_permuted}
use Rattle.list_lemmas.specs.Members.{in_moved}
use Rattle.rules_shapes.specs.Shapes.{size, numbered_leaves}
use Rattle.rules_shapes.proofs.Knit.{leaves_of}
use Rattle.rules_optimal.specs.Places.{HasNumbers}
use Rattle.rules_sizes.specs.Sizes.{Size}
use Rattle.rules_sizes.proofs.Sorting.{AreDifferent, AreAscending, sort_alike, ascending_different}
use Rattle.rules_sizes.proofs.Numbers.{Numbered, number, leaf_range, number_above}
use Rattle.rules_tables.specs.Tables.{first_of, any_in, mask_by}
use Rattle.rules_space.specs.Place.{Leaves}
use Rattle.rules_places.proofs.Masks.{low_bit}
use Rattle.rules_sizes.proofs.Sized.{ascending_append}

-- ---- the first that passes

pub first_is : {X : Type 0} (test : X → Bool) (xs : List X) (x : X) → In x xs → test x ≡ true → ((y : X) → In y xs → test y ≡ true → y ≡ x) → first_of test xs ≡ Some x
first_is test [] x m h only = absurd m
first_is test (y ∷ ys) x m h only = go (λ n. first_is test ys x n h (λ z k. only z (inr k))) (test y) refl m
  where
    go : (In x ys → first_of test ys ≡ Some x) → (b : Bool) → test y ≡ b → In x (y ∷ ys) → cond (test y) (Some y) (first_of test ys) ≡ Some x
    go later true e n = rw e (ap Some (only y (inl refl) e))
    go later false e (inl k) = absurd (let z : true ≡ false = sym h ∙ ap test k ∙ e in cc)
    go later false e (inr n) = rw e (later n)

pub any_true : (L : Leaves) (leaves : List Numbered) (v : Numbered) → In v leaves → L (number v) ≡ true → any_in L leaves ≡ true
any_true L [] v m h = absurd m
any_true L (w ∷ leaves) v (inl e) h = or_left (L (number w)) (any_in L leaves) (ap (λ u. L (number u)) (sym e) ∙ h)
any_true L (w ∷ leaves) v (inr m) h = or_right (L (number w)) (any_in L leaves) (any_true L leaves v m h)

pub any_found : (L : Leaves) (leaves : List Numbered) → any_in L leaves ≡ true → (v : Numbered) × In v leaves × (L (number v) ≡ true)
any_found L [] h = absurd (cc)
any_found L (w ∷ leaves) h = go (any_found L leaves) (tests.either (L (number w)) (any_in L leaves) h)
  where
    go : (any_in L leaves ≡ true → (v : Numbered) × In v leaves × (L (number v) ≡ true)) → (L (number w) ≡ true) ⊎ (any_in L leaves ≡ true) → (v : Numbered) × In v (w ∷ leaves) × (L (number v) ≡ true)
    go later (inl k) = (w, inl refl, k)
    go later (inr k) = let m = later k in (m.0, inr m.1, m.2)

-- ---- different numbers

-- a size of this number, and of nothing else
abbrev tag : Numbered → Size
tag v = record { number = number v; columns = []; rows = 0; distinct = λ c. 0; finished = 0 }

abbrev tags : List Numbered → List Size
tags leaves = map tag leaves

tags_both : (xs ys : List Numbered) → tags (xs ++ ys) ≡ tags xs ++ tags ys
tags_both [] ys = refl
tags_both (x ∷ xs) ys = ap (λ l. tag x ∷ l) (tags_both xs ys)

tag_in : (xs : List Numbered) (v : Numbered) → In v xs → In (tag v) (tags xs)
tag_in [] v m = absurd m
tag_in (x ∷ xs) v (inl e) = inl (ap tag e)
tag_in (x ∷ xs) v (inr m) = inr (tag_in xs v m)

tagged : (xs : List Numbered) (y : Size) → In y (tags xs) → (v : Numbered) × In v xs × (y ≡ tag v)
tagged [] y m = absurd m
tagged (x ∷ xs) y (inl e) = (x, inl refl, e)
tagged (x ∷ xs) y (inr m) = let k = tagged xs y m in (k.0, inr k.1, k.2)

tags_ascend : (base : ℕ) (t : Expression) → AreAscending (tags (numbered_leaves base t))
tags_ascend base (two (Join on) t u) =
    subst AreAscending (sym (tags_both (numbered_leaves base t) (numbered_leaves (base + size t) u)))
    (ascending_append (tags (numbered_leaves base t)) (tags (numbered_leaves (base + size t) u)) (tags_ascend base t) (tags_ascend (base + size t) u) apart)
  where
    apart : (x y : Size) → In x (tags (numbered_leaves base t)) → In y (tags (numbered_leaves (base + size t) u)) → x.number < y.number
    apart x y i j =
        let a = tagged (numbered_leaves base t) x i in
        let b = tagged (numbered_leaves (base + size t) u) y j in
        let k = (leaf_range base t a.0 a.1).1 in
        let l = (leaf_range (base + size t) u b.0 b.1).0 in
        let m = number_above b.0 in
        let p = ap (λ (z : Size). z.number) a.2 in
        let q = ap (λ (z : Size). z.number) b.2 in
        omega (arith, k, l, m, p, q)
tags_ascend base (two op t u) = ((λ y m. absurd m), tt)
tags_ascend base (one op t) = ((λ y m. absurd m), tt)
tags_ascend base (leaf op) = ((λ y m. absurd m), tt)

different_sides : (xs ys : List Size) → AreDifferent (xs ++ ys) → (x y : Size) → In x xs → In y ys → x.number ≡ y.number → ⊥
different_sides [] ys h x y i j k = absurd i
different_sides (z ∷ xs) ys h x y (inl e) j k = h.0 y (in_right y xs ys j) (ap (λ (z : Size). z.number) (sym e) ∙ k)
different_sides (z ∷ xs) ys h x y (inr i) j k = different_sides xs ys h.1 x y i j k

-- a leaf that is left out has no number of the others
pub out_apart : (base : ℕ) (n : Expression) (leaves out : List Numbered) → IsPermutation (leaves ++ out) (numbered_leaves base n) → (v w : Numbered) → In v leaves → In w out → number v ≡ number w → ⊥
out_apart base n leaves out p v w i j k =
    different_sides (tags leaves) (tags out) (subst AreDifferent (tags_both leaves out)
    (sort_alike (tags (numbered_leaves base n)) (tags (leaves ++ out)) (IsPermutation-sym (tags (leaves ++ out)) (tags (numbered_leaves base n)) (IsPermutation-map tag (leaves ++ out) (numbered_leaves base n) p))
    (ascending_different (tags (numbered_leaves base n)) (tags_ascend base n))).1) (tag v) (tag w) (tag_in leaves v i) (tag_in out w j) k

-- ---- those that are in the set

abbrev kept : Leaves → Numbered → List Numbered
kept L v = cond (L (number v)) (v ∷ []) []

abbrev pub picks : Leaves → List Numbered → List Numbered
picks L leaves = flat_map (kept L) leaves

picks_none : (L : Leaves) (xs : List Numbered) → ((w : Numbered) → In w xs → L (number w) ≡ false) → picks L xs ≡ []
picks_none L [] h = refl
picks_none L (x ∷ xs) h = rw (h x (inl refl)) (picks_none L xs (λ w m. h w (inr m)))

picks_first : (L : Leaves) (xs ys : List Numbered) → ((w : Numbered) → In w xs → L (number w) ≡ true) → ((w : Numbered) → In w ys → L (number w) ≡ false) → picks L (xs ++ ys) ≡ xs
picks_first L [] ys h k = picks_none L ys k
picks_first L (x ∷ xs) ys h k = rw (h x (inl refl)) (ap (λ l. x ∷ l) (picks_first L xs ys (λ w m. h w (inr m)) k))

-- the leaves with these numbers are those in the set
pub picked : (base : ℕ) (n : Expression) (L : Leaves) (leaves out : List Numbered) → IsPermutation (leaves ++ out) (numbered_leaves base n) → HasNumbers L leaves → IsPermutation leaves (picks L (numbered_leaves base n))
picked base n L leaves out p num =
    subst (λ l. IsPermutation l (picks L (numbered_leaves base n))) (picks_first L leaves out there gone) (flat_map_permuted (kept L) (leaves ++ out) (numbered_leaves base n) p)
  where
    there : (w : Numbered) → In w leaves → L (number w) ≡ true
    there w m = (num (number w)).1 (w, m, refl)

    gone : (w : Numbered) → In w out → L (number w) ≡ false
    gone w m = go (L (number w)) refl
      where
        go : (b : Bool) → L (number w) ≡ b → L (number w) ≡ false
        go false e = e
        go true e = let v = (num (number w)).0 e in absurd (out_apart base n leaves out p v.0 w v.1 m v.2)

-- ---- and chosen by the mask

high_bits : (n : ℕ) (b : Bool) → (n * 2 + cond b 1 0) / 2 ≡ n
high_bits n true = omega arith
high_bits n false = omega arith

pub chosen_picks : (L : Leaves) (leaves : List Numbered) → chosen (mask_by L leaves) (leaves_of leaves) ≡ leaves_of (picks L leaves)
chosen_picks L [] = refl
chosen_picks L (v ∷ leaves) =
    (λ i. cond (low_bit (mask_by L leaves) (L (number v)) i) (v.1 ∷ chosen (high_bits (mask_by L leaves) (L (number v)) i) (leaves_of leaves)) (chosen (high_bits (mask_by L leaves) (L (number v)) i) (leaves_of leaves)))
    ∙ go (chosen_picks L leaves) (L (number v))
  where
    go : chosen (mask_by L leaves) (leaves_of leaves) ≡ leaves_of (picks L leaves) → (b : Bool)
        → cond b (v.1 ∷ chosen (mask_by L leaves) (leaves_of leaves)) (chosen (mask_by L leaves) (leaves_of leaves)) ≡ leaves_of (cond b (v ∷ []) [] ++ picks L leaves)
    go e true = ap (λ l. v.1 ∷ l) e
    go e false = e

-- ---- a join of leaves is one of them in any order

one_there : (x : Expression) (xs : List Expression) → IsPermutation (x ∷ []) xs → xs ≡ x ∷ []
one_there x [] p = absurd (let l = length_permutation (x ∷ []) [] p in omega arith)
one_there x (y ∷ []) p = go (in_moved y (y ∷ []) (x ∷ []) (IsPermutation-sym (x ∷ []) (y ∷ []) p) (inl refl))
  where
    go : In y (x ∷ []) → y ∷ [] ≡ x ∷ []
    go (inl e) = ap (λ z. z ∷ []) e
    go (inr m) = absurd m
one_there x (y ∷ z ∷ more) p = absurd (let l = length_permutation (x ∷ []) (y ∷ z ∷ more) p in omega arith)

pub join_moved : (pairs : List (ℕ × ℕ)) (leaves others : List Expression) (t : Expression) → IsPermutation leaves others → IsJoinOf pairs leaves t → IsJoinOf pairs others t
join_moved pairs leaves others t q (joins.alone o) = subst (λ l. IsJoinOf pairs l o) (sym (one_there o others q)) (joins.alone o)
join_moved pairs leaves others t q (joins.both j k p d) = joins.both j k (IsPermutation-trans _ _ _ p q) d
