-- What the parts of a script have in all: a result that isn't shared stands in one consumer at most.
use Rattle.std.proofs.Common.{◌≡◌, ℕ, zero, suc, ◌+◌, ◌*◌, ◌<◌, ◌≤◌, Bool, true, false, not, cond, ◌||◌, nat_le, nat_eq, nat_lt, List, [], ◌∷◌, ◌++◌, length, refl, sym, ap, ap₂, ◌∙◌, subst, arith, Option, Some, None, slice_get, ◌==◌, ◌⊎◌, inl, inr}
use Rattle.std.specs.Prelude.{filter, flat_map, count_by}
use Rattle.std.specs.List.{range_with_len}
use Rattle.std.proofs.lemmas.Bool.Decides.{nat_tests}
use Rattle.std.proofs.lemmas.Grind.{flat_map-append}
use Rattle.list_lemmas.specs.Counts.{count-cons}
use Rattle.col_sets.specs.Sets.{has}
use Rattle.script_meaning.specs.Bound.{is_shared}

-- the sum of f over a list
abbrev pub total : (ℕ → ℕ) → List ℕ → ℕ
total f [] = 0
total f (k ∷ ks) = f k + total f ks

pub total_append : (f : ℕ → ℕ) (ks js : List ℕ) → total f (ks ++ js) ≡ total f ks + total f js
total_append f [] js = omega arith
total_append f (k ∷ ks) js = let e = total_append f ks js in omega (arith, e)

pub total_filter : (f : ℕ → ℕ) (p : ℕ → Bool) (ks : List ℕ) → total f (filter p ks) ≡ total (λ k. cond (p k) (f k) 0) ks
total_filter f p [] = refl
total_filter f p (k ∷ ks) = go (p k) (total_filter f p ks)
  where
    go : (b : Bool) → total f (filter p ks) ≡ total (λ i. cond (p i) (f i) 0) ks → total f (cond b (k ∷ filter p ks) (filter p ks)) ≡ cond b (f k) 0 + total (λ i. cond (p i) (f i) 0) ks
    go true e = omega (arith, e)
    go false e = omega (arith, e)

-- over a list as long or longer there is as much or more
pub total_most : (w a b m n : ℕ) → m ≤ n → total (λ k. w) (range_with_len a m) ≤ total (λ k. w) (range_with_len b n)
total_most w a b zero n h = omega arith
total_most w a b (suc m) zero h = absurd (omega arith)
total_most w a b (suc m) (suc n) h = let e = total_most w (a + 1) (b + 1) m n (omega arith) in omega (arith, e)

-- what f has at k for each time that k is in the list
abbrev pub hits : List ℕ → (ℕ → ℕ) → ℕ → ℕ
hits [] f k = 0
hits (j ∷ js) f k = cond (j == k) (f k) 0 + hits js f k

pub no_hits : (js : List ℕ) (f : ℕ → ℕ) (k : ℕ) → f k ≡ 0 → hits js f k ≡ 0
no_hits [] f k h = refl
no_hits (j ∷ js) f k h = go (j == k) (no_hits js f k h)
  where
    go : (b : Bool) → hits js f k ≡ 0 → cond b (f k) 0 + hits js f k ≡ 0
    go true e = omega (arith, e, h)
    go false e = omega (arith, e)

-- what isn't in the list has none
pub not_in : (js : List ℕ) (f : ℕ → ℕ) (k : ℕ) → has js k ≡ false → hits js f k ≡ 0
not_in [] f k h = refl
not_in (j ∷ js) f k h = go (j == k) (not_in js f k) h
  where
    go : (b : Bool) → (has js k ≡ false → hits js f k ≡ 0) → (b || has js k) ≡ false → cond b (f k) 0 + hits js f k ≡ 0
    go true more q = absurd (cc)
    go false more q = let e = more q in omega (arith, e)

times : List ℕ → ℕ → ℕ
times js k = count_by (λ m. m == k) js

-- what is in it less than once has none, and less than twice f's at most
never : (js : List ℕ) (f : ℕ → ℕ) (k : ℕ) → times js k < 1 → hits js f k ≡ 0
unfolding times
never [] f k h = refl
never (j ∷ js) f k h = go (j == k) (count-cons (λ m. m == k) j js) (never js f k)
  where
    go : (b : Bool) → count_by (λ m. m == k) (j ∷ js) ≡ cond {A = ℕ} b 1 0 + count_by (λ m. m == k) js → (times js k < 1 → hits js f k ≡ 0) → cond b (f k) 0 + hits js f k ≡ 0
    go true e more = absurd (omega (arith, e, h))
    go false e more = let q = more (omega (arith, e, h)) in omega (arith, q)

once : (js : List ℕ) (f : ℕ → ℕ) (k : ℕ) → times js k < 2 → hits js f k ≤ f k
unfolding times
once [] f k h = omega arith
once (j ∷ js) f k h = go (j == k) (count-cons (λ m. m == k) j js) (once js f k)
  where
    go : (b : Bool) → count_by (λ m. m == k) (j ∷ js) ≡ cond {A = ℕ} b 1 0 + count_by (λ m. m == k) js → (times js k < 2 → hits js f k ≤ f k) → cond b (f k) 0 + hits js f k ≤ f k
    go true e more = let q = never js f k (omega (arith, e, h)) in omega (arith, q)
    go false e more = let q = more (omega (arith, e, h)) in omega (arith, q)

pub hits_once : (js : List ℕ) (f : ℕ → ℕ) (k : ℕ) → is_shared js k ≡ false → hits js f k ≤ f k
unfolding times
hits_once js f k h = let l : count_by (λ m. m == k) js < 2 = grind (arith, nat_tests, h) in once js f k l

-- what is shared is in the list
pub shared_in : (js : List ℕ) (k : ℕ) → is_shared js k ≡ true → has js k ≡ true
shared_in js k h = let l : 1 < count_by (λ m. m == k) js = grind (arith, nat_tests, h) in go js (omega (arith, l))
  where
    go : (is : List ℕ) → 0 < count_by (λ m. m == k) is → has is k ≡ true
    go [] l = absurd (omega arith)
    go (i ∷ is) l = at (i == k) (count-cons (λ m. m == k) i is) (go is)
      where
        at : (b : Bool) → count_by (λ m. m == k) (i ∷ is) ≡ cond {A = ℕ} b 1 0 + count_by (λ m. m == k) is → (0 < count_by (λ m. m == k) is → has is k ≡ true) → (b || has is k) ≡ true
        at true e more = refl
        at false e more = more (omega (arith, e, l))

-- one number's share of a range
one_hit : (f : ℕ → ℕ) (j a m : ℕ) → a ≤ j → j < a + m → f j ≤ total (λ k. cond (j == k) (f k) 0) (range_with_len a m)
one_hit f j a zero l u = absurd (omega arith)
one_hit f j a (suc m) l u = go (j == a) refl (λ p. one_hit f j (a + 1) m p (omega arith))
  where
    go : (b : Bool) → (j == a) ≡ b → (a + 1 ≤ j → f j ≤ total (λ k. cond (j == k) (f k) 0) (range_with_len (a + 1) m))
        → f j ≤ cond b (f a) 0 + total (λ k. cond (j == k) (f k) 0) (range_with_len (a + 1) m)
    go true e more = let same : j ≡ a = grind (arith, nat_tests, e) in let q = ap f same in omega (arith, q)
    go false e more = let past : a + 1 ≤ j = grind (arith, nat_tests, e, l) in let q = more past in omega (arith, q)

total_plus : (f g : ℕ → ℕ) (ks : List ℕ) → total (λ k. f k + g k) ks ≡ total f ks + total g ks
total_plus f g [] = refl
total_plus f g (k ∷ ks) = let e = total_plus f g ks in omega (arith, e)

-- the sum over a list of numbers below m, by how often each is in it
pub by_number : (f : ℕ → ℕ) (js : List ℕ) (m : ℕ) → ((j : ℕ) → has js j ≡ true → j < m) → total f js ≤ total (hits js f) (range_with_len 0 m)
by_number f [] m h = omega arith
by_number f (j ∷ js) m h =
    let first = one_hit f j 0 m (omega arith) (let l : j < m = h j (here (nat_eq j j) (same j)) in omega (arith, l)) in
    let rest = by_number f js m (λ i q. h i (later i (nat_eq j i) q)) in
    let both = total_plus (λ k. cond (j == k) (f k) 0) (hits js f) (range_with_len 0 m) in
    omega (arith, first, rest, both)
  where
    same : (i : ℕ) → nat_eq i i ≡ true
    same i = grind (arith, nat_tests)

    here : (b : Bool) → b ≡ true → (b || has js j) ≡ true
    here true e = refl
    here false e = absurd (cc)

    later : (i : ℕ) (b : Bool) → has js i ≡ true → (b || has js i) ≡ true
    later i true q = refl
    later i false q = q
