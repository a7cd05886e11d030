-- What is in a set of columns, and at which place.
use Rattle.std.proofs.Common.{◌≡◌, ℕ, zero, suc, ◌+◌, ◌<◌, ◌≤◌, Bool, true, false, cond, ◌&&◌, ◌||◌, List, [], ◌∷◌, ◌++◌, refl, sym, ap, ◌∙◌, subst, arith, nat_eq, nat_lt, ◌⊎◌, inl, inr, slice_index, slice_get, Some}
use Rattle.std.proofs.lemmas.List.{map-id, append-nil}
use Rattle.std.proofs.lemmas.List.FromFn.{get_or-range_with_len, length-range_with_len, filter_of_map_range_with_len_more}
use Rattle.std.specs.List.{filter, range_with_len}
use Rattle.std.specs.List.Sorted.{IsStrictlyIncreasing}
use Rattle.std.proofs.lemmas.Bool.Decides.{nat_tests}
use Rattle.std.proofs.lemmas.List.Kept.{IsStrictlyIncreasing-filter}
use Rattle.col_sets.specs.Sets.{has, within, columns_where, with_column, union, rank, count, IsColumnSet}
use Rattle.col_sets.specs.Tests.{both, and_true, or_left, or_right, either, from_test, to_test}

-- a number from a on, of n
abbrev pub inside : ℕ → ℕ → ℕ → Bool
inside a n c = cond (nat_lt c a) false (nat_lt c (a + n))

-- what is in the numbers of a range that pass
pub has-filter : (p : ℕ → Bool) (c : ℕ) (n a : ℕ) → has (filter p (range_with_len a n)) c ≡ (inside a n c && p c)
has-filter p c zero a = let e : inside a 0 c ≡ false = grind (arith, nat_tests) in rw e refl
has-filter p c (suc n) a = go (has-filter p c n (a + 1)) (p a) refl (nat_eq a c) refl
  where
    here : nat_eq a c ≡ true → inside a (suc n) c ≡ true
    here h = grind (arith, nat_tests)

    there : nat_eq a c ≡ false → inside (a + 1) n c ≡ inside a (suc n) c
    there h = grind (arith, nat_tests)

    after : nat_eq a c ≡ true → inside (a + 1) n c ≡ false
    after h = grind (arith, nat_tests)

    one : nat_eq a c ≡ true → a ≡ c
    one h = grind (arith, nat_tests)

    go : has (filter p (range_with_len (a + 1) n)) c ≡ (inside (a + 1) n c && p c) → (b : Bool) → p a ≡ b → (d : Bool) → nat_eq a c ≡ d
        → has (cond (p a) (a ∷ filter p (range_with_len (a + 1) n)) (filter p (range_with_len (a + 1) n))) c ≡ (inside a (suc n) c && p c)
    go more true e true f = rw (e, f, here f) (sym e ∙ ap p (one f))
    go more true e false f = rw (e, f, ← there f) more
    go more false e true f = rw (e, here f) (more ∙ rw (after f) (sym e ∙ ap p (one f)))
    go more false e false f = rw (e, ← there f) more

-- the columns that pass are those below 128 that pass
pub has-columns_where : (p : ℕ → Bool) (c : ℕ) → has (columns_where p) c ≡ (nat_lt c 128 && p c)
unfolding columns_where
has-columns_where p c = has-filter p c 128 0 ∙ ap (λ b. b && p c) below
  where
    below : inside 0 128 c ≡ nat_lt c 128
    below = grind (arith, nat_tests)

-- two filters are one
pub filter-filter : {X : Type 0} (p q : X → Bool) (xs : List X) → filter p (filter q xs) ≡ filter (λ x. q x && p x) xs
filter-filter p q [] = refl
filter-filter p q (x ∷ xs) = go (q x) (p x) refl (filter-filter p q xs)
  where
    go : (b c : Bool) → p x ≡ c → filter p (filter q xs) ≡ filter (λ y. q y && p y) xs
        → filter p (cond b (x ∷ filter q xs) (filter q xs)) ≡ cond (b && p x) (x ∷ filter (λ y. q y && p y) xs) (filter (λ y. q y && p y) xs)
    go true true e more = rw e (ap (λ zs. x ∷ zs) more)
    go true false e more = rw e more
    go false c e more = more

-- tests that are alike in a range keep the same of it
filter_between : (p q : ℕ → Bool) (n a : ℕ) → ((c : ℕ) → c < a + n → p c ≡ q c) → filter p (range_with_len a n) ≡ filter q (range_with_len a n)
filter_between p q zero a h = refl
filter_between p q (suc n) a h =
    let e : p a ≡ q a = h a (omega arith) in
    rw e (ap (λ cs. cond (q a) (a ∷ cs) cs) (filter_between p q n (a + 1) (λ c l. h c (omega arith))))

-- tests that are alike below 128 give one set
pub columns_same : (p q : ℕ → Bool) → ((c : ℕ) → c < 128 → p c ≡ q c) → columns_where p ≡ columns_where q
unfolding columns_where
columns_same p q h = filter_between p q 128 0 (λ c l. h c (omega arith))

-- a column below 128 is in the set where it passes
pub has_where : (p : ℕ → Bool) (c : ℕ) → c < 128 → has (columns_where p) c ≡ p c
has_where p c l = let e : nat_lt c 128 ≡ true = grind (arith, nat_tests) in has-columns_where p c ∙ rw e refl

-- what is in the columns that pass is below 128 and passes
pub has_passes : (p : ℕ → Bool) (c : ℕ) → has (columns_where p) c ≡ true → (c < 128) × (p c ≡ true)
has_passes p c h = let parts = both _ _ (sym (has-columns_where p c) ∙ h) in (below parts.0, parts.1)
  where
    below : nat_lt c 128 ≡ true → c < 128
    below e = grind (arith, nat_tests)

-- the columns that pass are a set
pub columns_where-set : (p : ℕ → Bool) → IsColumnSet (columns_where p)
columns_where-set p = columns_same (has (columns_where p)) p (λ c l. has_where p c l)

-- each column of a set is below 128
pub has_below : (s : List ℕ) → IsColumnSet s → (c : ℕ) → has s c ≡ true → c < 128
has_below s set c h = (has_passes (has s) c (ap (λ t. has t c) set ∙ h)).0

-- sets with the same columns are one set
pub sets_same : (s t : List ℕ) → IsColumnSet s → IsColumnSet t → ((c : ℕ) → c < 128 → has s c ≡ has t c) → s ≡ t
sets_same s t p q h = sym p ∙ columns_same (has s) (has t) h ∙ q

-- what is in s with c is c or in s
pub with_has : (s : List ℕ) (c d : ℕ) → has (with_column s c) d ≡ true → (d ≡ c) ⊎ (has s d ≡ true)
with_has s c d h = go (either _ _ (has_passes (λ e. nat_eq c e || has s e) d h).1)
  where
    go : (nat_eq c d ≡ true) ⊎ (has s d ≡ true) → (d ≡ c) ⊎ (has s d ≡ true)
    go (inl k) = inl (sym (from_test c d k))
    go (inr k) = inr k

-- c, and what is in s, is in s with c
pub has_with : (s : List ℕ) (c d : ℕ) → d < 128 → (d ≡ c) ⊎ (has s d ≡ true) → has (with_column s c) d ≡ true
has_with s c d l (inl e) = has_where (λ e. nat_eq c e || has s e) d l ∙ or_left _ _ (to_test c d (sym e))
has_with s c d l (inr k) = has_where (λ e. nat_eq c e || has s e) d l ∙ or_right _ _ k

-- what is in the union is in one of the two
pub union_has : (s t : List ℕ) (c : ℕ) → has (union s t) c ≡ true → (has s c ≡ true) ⊎ (has t c ≡ true)
union_has s t c h = either _ _ (has_passes (λ d. has s d || has t d) c h).1

-- what is in one of the two is in the union
pub has_union : (s t : List ℕ) (c : ℕ) → c < 128 → (has s c ≡ true) ⊎ (has t c ≡ true) → has (union s t) c ≡ true
has_union s t c l (inl k) = has_where (λ d. has s d || has t d) c l ∙ or_left _ _ k
has_union s t c l (inr k) = has_where (λ d. has s d || has t d) c l ∙ or_right _ _ k

-- where what is in s is in t, s is within t
pub within_of : (s t : List ℕ) → ((c : ℕ) → has s c ≡ true → has t c ≡ true) → within s t ≡ true
within_of [] t h = refl
within_of (c ∷ s) t h =
    let self : nat_eq c c ≡ true = to_test c c refl in
    let one : has t c ≡ true = h c (or_left _ _ self) in
    and_true _ _ one (within_of s t (λ d k. h d (or_right _ _ k)))

-- where s is within t, what is in s is in t
pub within_has : (s t : List ℕ) → within s t ≡ true → (c : ℕ) → has s c ≡ true → has t c ≡ true
within_has [] t h c k = absurd (cc)
within_has (d ∷ s) t h c k = go (within_has s t) (both _ _ h) (either _ _ k)
  where
    go : (within s t ≡ true → (c : ℕ) → has s c ≡ true → has t c ≡ true) → (has t d ≡ true) × (within s t ≡ true) → (nat_eq d c ≡ true) ⊎ (has s c ≡ true) → has t c ≡ true
    go more parts (inl e) = subst (λ (i : ℕ). has t i ≡ true) (from_test d c e) parts.0
    go more parts (inr e) = more parts.1 c e

-- the numbers of a range by place
range_at : (n a k : ℕ) → k < n → slice_index (range_with_len a n) k ≡ a + k
range_at n a k l = get_or-range_with_len a n k 0 l

-- a range ascends
range_rises : (n a : ℕ) → IsStrictlyIncreasing (range_with_len a n)
range_rises n a k l = omega (arith, range_at n a k, range_at n a (k + 1), length-range_with_len a n)

-- the columns of a set ascend
pub set_rises : (s : List ℕ) → IsColumnSet s → IsStrictlyIncreasing s
unfolding columns_where
set_rises s set = subst (λ (t : List ℕ). IsStrictlyIncreasing t) set (IsStrictlyIncreasing-filter (has s) (range_with_len 0 128) (range_rises 128 0))

-- at most as many columns are below c as there are
pub rank-le : (s : List ℕ) (c : ℕ) → rank s c ≤ count s
rank-le [] c = omega arith
rank-le (d ∷ s) c = go (rank-le s c) (nat_lt d c) refl
  where
    go : rank s c ≤ count s → (b : Bool) → nat_lt d c ≡ b → rank (d ∷ s) c ≤ count (d ∷ s)
    go more true e = rw e (omega arith)
    go more false e = rw e (omega arith)

-- a column that is there has a place
pub rank-lt : (s : List ℕ) (c : ℕ) → has s c ≡ true → rank s c < count s
rank-lt [] c h = absurd (cc)
rank-lt (d ∷ s) c h = go (rank-le s c) (rank-lt s c) (nat_lt d c) refl (either _ _ h)
  where
    itself : nat_eq d c ≡ true → nat_lt d c ≡ false
    itself k = grind (arith, nat_tests)

    go : rank s c ≤ count s → (has s c ≡ true → rank s c < count s) → (b : Bool) → nat_lt d c ≡ b → (nat_eq d c ≡ true) ⊎ (has s c ≡ true) → rank (d ∷ s) c < count (d ∷ s)
    go most more b e (inl k) = rw (itself k) (omega arith)
    go most more true e (inr k) = let l = more k in rw e (omega arith)
    go most more false e (inr k) = rw e (omega arith)

-- where all columns are below c, its rank is their number
pub rank_all : (s : List ℕ) (c : ℕ) → ((d : ℕ) → has s d ≡ true → d < c) → rank s c ≡ count s
rank_all [] c h = refl
rank_all (d ∷ s) c h =
    let l : d < c = h d (or_left _ _ (to_test d d refl)) in
    let e : nat_lt d c ≡ true = grind (arith, nat_tests) in
    rw e (ap suc (rank_all s c (λ k m. h k (or_right _ _ m))))

-- the columns of a range from c on are not below it
rank_none : (p : ℕ → Bool) (n a c : ℕ) → c ≤ a → rank (filter p (range_with_len a n)) c ≡ 0
rank_none p zero a c l = refl
rank_none p (suc n) a c l = go (rank_none p n (a + 1) c (omega arith)) (p a) refl
  where
    later : nat_lt a c ≡ false
    later = grind (arith, nat_tests)

    go : rank (filter p (range_with_len (a + 1) n)) c ≡ 0 → (b : Bool) → p a ≡ b → rank (filter p (range_with_len a (suc n))) c ≡ 0
    go more true e = rw (e, later) more
    go more false e = rw e more

-- the place of what passes in a range
range_place : (p : ℕ → Bool) (n a c : ℕ) → has (filter p (range_with_len a n)) c ≡ true → slice_get (filter p (range_with_len a n)) (rank (filter p (range_with_len a n)) c) ≡ Some c
range_place p zero a c h = absurd (cc)
range_place p (suc n) a c h = go (range_place p n (a + 1) c) (p a) refl (nat_eq a c) refl h
  where
    rest : List ℕ
    rest = filter p (range_with_len (a + 1) n)

    later : has rest c ≡ true → nat_lt a c ≡ true
    later h = beyond (both (inside (a + 1) n c) (p c) (sym (has-filter p c n (a + 1)) ∙ h)).0
      where
        beyond : inside (a + 1) n c ≡ true → nat_lt a c ≡ true
        beyond k = grind (arith, nat_tests)

    go : (has rest c ≡ true → slice_get rest (rank rest c) ≡ Some c) → (b : Bool) → p a ≡ b → (d : Bool) → nat_eq a c ≡ d → has (filter p (range_with_len a (suc n))) c ≡ true
        → slice_get (filter p (range_with_len a (suc n))) (rank (filter p (range_with_len a (suc n))) c) ≡ Some c
    go more true e true f h =
        let same : a ≡ c = from_test a c f in
        let none : rank rest c ≡ 0 = rank_none p n (a + 1) c (omega arith) in
        let past : nat_lt a c ≡ false = grind (arith, nat_tests) in
        rw (e, past, none) (ap Some same)
    go more true e false f h =
        let inner : has rest c ≡ true = (rw (e, f) at h) in
        let above : nat_lt a c ≡ true = later inner in
        rw (e, above) (more inner)
    go more false e d f h = let inner : has rest c ≡ true = (rw e at h) in rw e (more inner)

-- a column of a set stands at the place that its rank says
pub rank_place : (s : List ℕ) (c : ℕ) → IsColumnSet s → has s c ≡ true → slice_get s (rank s c) ≡ Some c
unfolding columns_where
rank_place s c set h =
    let k : has (filter (has s) (range_with_len 0 128)) c ≡ true = ap (λ t. has t c) set ∙ h in
    subst (λ (t : List ℕ). slice_get t (rank t c) ≡ Some c) set (range_place (has s) 128 0 c k)

-- where none passes, the set is empty
pub columns_none : columns_where (λ c. false) ≡ []
unfolding columns_where
columns_none = none 128 0
  where
    none : (n a : ℕ) → filter (λ c. false) (range_with_len a n) ≡ []
    none zero a = refl
    none (suc n) a = none n (a + 1)

-- one number more of a range is tested
filter_range_more : (p : ℕ → Bool) (n : ℕ) → filter p (range_with_len 0 (n + 1)) ≡ filter p (range_with_len 0 n) ++ cond (p n) (n ∷ []) []
filter_range_more p n =
    let zero_n : 0 + n ≡ n = omega arith in
    ap (filter p) (sym (map-id (range_with_len 0 (n + 1))))
    ∙ filter_of_map_range_with_len_more p (λ i. i) 0 n n zero_n
    ∙ ap (λ xs. filter p xs ++ cond (p n) (n ∷ []) []) (map-id (range_with_len 0 n))

-- a turn of a loop that keeps the numbers that pass
pub range_step : (p : ℕ → Bool) (n : ℕ) (kept more : List ℕ) (b : Bool) → kept ≡ filter p (range_with_len 0 n) → p n ≡ b → more ≡ cond b (kept ++ n ∷ []) kept
    → more ≡ filter p (range_with_len 0 (n + 1))
range_step p n kept more true is passes new = rw (filter_range_more, passes, ← is) new
range_step p n kept more false is passes new = rw (filter_range_more, passes, append-nil, ← is) new
