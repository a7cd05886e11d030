-- The laws of closures and facts, which the crates above cite in their proofs: the steps end in the least closed set, and facts of a list of rows are facts of a bag.
use Rattle.std.proofs.Common.{◌≡◌, ℕ, zero, suc, ◌+◌, ◌<◌, ◌≤◌, ◌≢◌, Bool, true, false, not, ◌&&◌, ◌||◌, List, [], ◌∷◌, ◌++◌, length, refl, sym, ap, ◌∙◌, subst, arith, nat_eq, nat_lt, ◌⊎◌, inl, inr}
use Rattle.std.specs.Prelude.{Contains}
use Rattle.std.specs.Ordering.{eq_by_cmp}
use Rattle.std.specs.List.{filter, range_with_len}
use Rattle.std.proofs.lemmas.Bool.Decides.{nat_tests}
use Rattle.std.proofs.lemmas.List.Sorted.{Contains-permutation, IsPermutation-sym}
use Rattle.scope_value.specs.declared.value.Value.{Value}
use Rattle.scope_value.specs.Order.{value_cmp, value_eq-decides}
use Rattle.col_sets.specs.Sets.{has, within, columns_where}
use Rattle.col_sets.specs.Columns.{has_where, has_passes, within_of, within_has}
use Rattle.col_sets.specs.Tests.{both, and_true, or_left, or_right, either, from_test, to_test}
use Rattle.fd_closure.specs.Known.{by_of, class_of, equal_of}
use Rattle.fd_closure.specs.Closure.{any_below, classes_of, forces, grown, grow, closure_of}
use Rattle.fd_closure.specs.Least.{IsClosed, IsLeast}
use Rattle.fd_closure.specs.Hold.{at, Agree, FactsHold, BagLaw}
use Rattle.fd_closure.specs.declared.facts.Facts.{Facts}

-- x is an element of the list
abbrev In : ℕ → List ℕ → Type 0
In x [] = ⊥
In x (y ∷ ys) = (x ≡ y) ⊎ In x ys

-- a number that passes is one of those below n
pub any_some : (p : ℕ → Bool) (n k : ℕ) → k < n → p k ≡ true → any_below p n ≡ true
unfolding any_below
any_some p zero k l h = absurd (omega arith)
any_some p (suc n) k l h = go (any_some p n k) (nat_eq n k) refl
  where
    go : (k < n → p k ≡ true → any_below p n ≡ true) → (b : Bool) → nat_eq n k ≡ b → (p n || any_below p n) ≡ true
    go more true e = or_left _ _ (let same : k ≡ n = sym (from_test n k e) in subst (λ (i : ℕ). p i ≡ true) same h)
    go more false e = let other : n ≢ k = grind (arith, nat_tests) in or_right _ _ (more (omega arith) h)

-- where one passes, it can be named
pub any_find : (p : ℕ → Bool) (n : ℕ) → any_below p n ≡ true → (k : ℕ) × (k < n) × (p k ≡ true)
unfolding any_below
any_find p zero h = absurd (cc)
any_find p (suc n) h = go (any_find p n) (either (p n) (any_below p n) h)
  where
    go : (any_below p n ≡ true → (k : ℕ) × (k < n) × (p k ≡ true)) → (p n ≡ true) ⊎ (any_below p n ≡ true) → (k : ℕ) × (k < suc n) × (p k ≡ true)
    go more (inl e) = (n, omega arith, e)
    go more (inr e) = let r = more e in let l : r.0 < n = r.1 in (r.0, omega arith, r.2)

-- what is in the first list is in both joined
has_first : (s t : List ℕ) (c : ℕ) → has s c ≡ true → has (s ++ t) c ≡ true
has_first [] t c h = absurd (cc)
has_first (d ∷ s) t c h = go (has_first s t c) (either _ _ h)
  where
    go : (has s c ≡ true → has (s ++ t) c ≡ true) → (nat_eq d c ≡ true) ⊎ (has s c ≡ true) → (nat_eq d c || has (s ++ t) c) ≡ true
    go more (inl e) = or_left _ _ e
    go more (inr e) = or_right _ _ (more e)

-- what is in the second list is in both joined
has_second : (s t : List ℕ) (c : ℕ) → has t c ≡ true → has (s ++ t) c ≡ true
has_second [] t c h = h
has_second (d ∷ s) t c h = or_right _ _ (has_second s t c h)

-- what is in two lists joined is in one of them
has_either : (s t : List ℕ) (c : ℕ) → has (s ++ t) c ≡ true → (has s c ≡ true) ⊎ (has t c ≡ true)
has_either [] t c h = inr h
has_either (d ∷ s) t c h = go (has_either s t c) (either _ _ h)
  where
    go : (has (s ++ t) c ≡ true → (has s c ≡ true) ⊎ (has t c ≡ true)) → (nat_eq d c ≡ true) ⊎ (has (s ++ t) c ≡ true) → ((nat_eq d c || has s c) ≡ true) ⊎ (has t c ≡ true)
    go more (inl e) = inl (or_left _ _ e)
    go more (inr e) = side (more e)
      where
        side : (has s c ≡ true) ⊎ (has t c ≡ true) → ((nat_eq d c || has s c) ≡ true) ⊎ (has t c ≡ true)
        side (inl k) = inl (or_right _ _ k)
        side (inr k) = inr k

-- the test says it
below : (c : ℕ) → nat_lt c 128 ≡ true → c < 128
below c e = grind (arith, nat_tests)

module _ (f : Facts) where
  -- the parts of an equality by the facts
  pub equal_parts : (c d : ℕ) → equal_of f c d ≡ true → (c < 128) × (d < 128) × (class_of f c < 128) × (class_of f c ≡ class_of f d)
  equal_parts c d h =
      let one = both (nat_lt c 128) _ h in
      let two = both (nat_lt d 128) _ one.1 in
      let three = both (nat_lt (class_of f c) 128) (nat_eq (class_of f c) (class_of f d)) two.1 in
      (below c one.0, below d two.0, below (class_of f c) three.0, from_test (class_of f c) (class_of f d) three.1)

  -- columns of one class are equal by the facts
  pub equal_of_parts : (c d : ℕ) → c < 128 → d < 128 → class_of f c < 128 → class_of f c ≡ class_of f d → equal_of f c d ≡ true
  equal_of_parts c d l m n e =
      let p : nat_lt c 128 ≡ true = grind (arith, nat_tests) in
      let q : nat_lt d 128 ≡ true = grind (arith, nat_tests) in
      let r : nat_lt (class_of f c) 128 ≡ true = grind (arith, nat_tests) in
      and_true _ _ p (and_true _ _ q (and_true _ _ r (to_test (class_of f c) (class_of f d) e)))

  -- equal columns are below 128
  equal_below : (c d : ℕ) → equal_of f c d ≡ true → (c < 128) × (d < 128)
  equal_below c d h = let r = equal_parts c d h in (r.0, r.1)

  -- a column of s that equals c, where c's class is among those of s
  alike_find : (s : List ℕ) (c : ℕ) → c < 128 → has (classes_of f s) (class_of f c) ≡ true → (d : ℕ) × (has s d ≡ true) × (equal_of f d c ≡ true)
  alike_find s c l h =
      let r = has_passes (λ n. any_below (λ d. has s d && nat_eq (class_of f d) n) 128) (class_of f c) h in
      let k = any_find (λ d. has s d && nat_eq (class_of f d) (class_of f c)) 128 r.1 in
      let parts = both (has s k.0) (nat_eq (class_of f k.0) (class_of f c)) k.2 in
      let same : class_of f k.0 ≡ class_of f c = from_test (class_of f k.0) (class_of f c) parts.1 in
      let low : class_of f c < 128 = r.0 in
      (k.0, parts.0, equal_of_parts k.0 c k.1 l (omega arith) same)

  -- the class of a column that equals one of s is among those of s
  alike_some : (s : List ℕ) (c d : ℕ) → equal_of f c d ≡ true → has s c ≡ true → has (classes_of f s) (class_of f d) ≡ true
  alike_some s c d e h =
      let parts = equal_parts c d e in
      let low : class_of f d < 128 = omega (arith, parts.2, parts.3) in
      has_where (λ n. any_below (λ d. has s d && nat_eq (class_of f d) n) 128) (class_of f d) low
      ∙ any_some (λ k. has s k && nat_eq (class_of f k) (class_of f d)) 128 c parts.0 (and_true _ _ h (to_test (class_of f c) (class_of f d) parts.3))

  -- what a set forces is in each closed set
  forced_in : (s t : List ℕ) → IsClosed f t → ((c : ℕ) → has s c ≡ true → has t c ≡ true) → (c : ℕ) → c < 128 → forces f s c ≡ true → has t c ≡ true
  forced_in s t closed sub c l h = go (either _ _ h)
    where
      go : ((has f.constants c || (has f.determined c && within (by_of f c) s)) ≡ true) ⊎ (has (classes_of f s) (class_of f c) ≡ true) → has t c ≡ true
      go (inl k) = here (either _ _ k)
        where
          here : (has f.constants c ≡ true) ⊎ ((has f.determined c && within (by_of f c) s) ≡ true) → has t c ≡ true
          here (inl m) = closed.constants c l m
          here (inr m) = let parts = both _ _ m in closed.determined c l parts.0 (within_of (by_of f c) t (λ d n. sub d (within_has (by_of f c) s parts.1 d n)))
      go (inr k) = let r = alike_find s c l k in closed.equal r.0 c r.2 (sub r.0 r.1)

  -- what a step gives was there or is forced
  has_grown : (s : List ℕ) (c : ℕ) → has (grown f s) c ≡ true → (c < 128) × ((has s c ≡ true) ⊎ (forces f s c ≡ true))
  has_grown s c h = let parts = has_passes (λ c. has s c || forces f s c) c h in (parts.0, either _ _ parts.1)

  -- a step keeps what was there and gives what is forced
  grown_has : (s : List ℕ) (c : ℕ) → c < 128 → (has s c ≡ true) ⊎ (forces f s c ≡ true) → has (grown f s) c ≡ true
  grown_has s c l h = has_where (λ c. has s c || forces f s c) c l ∙ go h
    where
      go : (has s c ≡ true) ⊎ (forces f s c ≡ true) → (has s c || forces f s c) ≡ true
      go (inl k) = or_left _ _ k
      go (inr k) = or_right _ _ k

  -- s has all that it forces
  abbrev Stays : List ℕ → Type 0
  Stays s = (c : ℕ) → c < 128 → forces f s c ≡ true → has s c ≡ true

  -- a set that has all that it forces is closed
  stays_closed : (s : List ℕ) → Stays s → IsClosed f s
  stays_closed s h = record {
    constants = λ c l k. h c l (or_left _ _ (or_left _ _ k));
    determined = λ c l k m. h c l (or_left _ _ (or_right _ _ (and_true _ _ k m)));
    equal = λ c d e k. h d (equal_below c d e).1 (or_right _ _ (alike_some s c d e k));
  }

  -- a step from such a set leads to one
  stays_grown : (s : List ℕ) → Stays s → Stays (grown f s)
  stays_grown s h c l k =
      let closed = stays_closed s h in
      grown_has s c l (inl (forced_in (grown f s) s closed (λ d m. let r = has_grown s d m in back d r.0 r.1) c l k))
    where
      back : (d : ℕ) → d < 128 → (has s d ≡ true) ⊎ (forces f s d ≡ true) → has s d ≡ true
      back d l (inl m) = m
      back d l (inr m) = h d l m

  -- and so do n steps
  stays_grow : (n : ℕ) (s : List ℕ) → Stays s → Stays (grow f n s)
  stays_grow zero s h = h
  stays_grow (suc n) s h = stays_grow n (grown f s) (stays_grown s h)

  -- steps keep what was there
  pub grow_has : (n : ℕ) (s : List ℕ) → (c : ℕ) → c < 128 → has s c ≡ true → has (grow f n s) c ≡ true
  grow_has zero s c l h = h
  grow_has (suc n) s c l h = grow_has n (grown f s) c l (grown_has s c l (inl h))

  -- each closed set that has s has what s grows to
  pub grow_in : (n : ℕ) (s t : List ℕ) → IsClosed f t → ((c : ℕ) → has s c ≡ true → has t c ≡ true) → (c : ℕ) → has (grow f n s) c ≡ true → has t c ≡ true
  grow_in zero s t closed sub c h = sub c h
  grow_in (suc n) s t closed sub c h = grow_in n (grown f s) t closed (λ d m. let r = has_grown s d m in go d r.0 r.1) c h
    where
      go : (d : ℕ) → d < 128 → (has s d ≡ true) ⊎ (forces f s d ≡ true) → has t d ≡ true
      go d l (inl m) = sub d m
      go d l (inr m) = forced_in s t closed sub d l m

  -- how many columns s lacks
  abbrev missing : List ℕ → List ℕ → ℕ
  missing xs s = length (filter (λ c. not (has s c)) xs)

  -- a larger set lacks no more
  missing_le : (xs s t : List ℕ) → ((c : ℕ) → In c xs → has s c ≡ true → has t c ≡ true) → missing xs t ≤ missing xs s
  missing_le [] s t h = omega arith
  missing_le (x ∷ xs) s t h = go (missing_le xs s t (λ c m. h c (inr m))) (has s x) refl (has t x) refl
    where
      go : missing xs t ≤ missing xs s → (a : Bool) → has s x ≡ a → (b : Bool) → has t x ≡ b → missing (x ∷ xs) t ≤ missing (x ∷ xs) s
      go more true e true g = rw (e, g) more
      go more true e false g = absurd (let k = sym (h x (inl refl) e) ∙ g in cc)
      go more false e true g = rw (e, g) (omega arith)
      go more false e false g = rw (e, g) (omega arith)

  -- a set with one more lacks fewer
  missing_lt : (xs s t : List ℕ) → ((c : ℕ) → In c xs → has s c ≡ true → has t c ≡ true) → (c : ℕ) → In c xs → has s c ≡ false → has t c ≡ true → missing xs t < missing xs s
  missing_lt [] s t h c m lacks gives = absurd m
  missing_lt (x ∷ xs) s t h c (inl m) lacks gives =
      let most = missing_le xs s t (λ c m. h c (inr m)) in
      let e : has s x ≡ false = ap (has s) (sym m) ∙ lacks in
      let g : has t x ≡ true = ap (has t) (sym m) ∙ gives in
      rw (e, g) (omega arith)
  missing_lt (x ∷ xs) s t h c (inr m) lacks gives = go (missing_lt xs s t (λ c m. h c (inr m)) c m lacks gives) (has s x) refl (has t x) refl
    where
      go : missing xs t < missing xs s → (a : Bool) → has s x ≡ a → (b : Bool) → has t x ≡ b → missing (x ∷ xs) t < missing (x ∷ xs) s
      go more true e true g = rw (e, g) more
      go more true e false g = absurd (let k = sym (h x (inl refl) e) ∙ g in cc)
      go more false e true g = rw (e, g) (omega arith)
      go more false e false g = rw (e, g) (omega arith)

  -- the numbers of a range
  in_range : (n a c : ℕ) → a ≤ c → c < a + n → In c (range_with_len a n)
  in_range zero a c l m = absurd (omega arith)
  in_range (suc n) a c l m = go (in_range n (a + 1) c) (nat_eq a c) refl
    where
      go : (a + 1 ≤ c → c < a + 1 + n → In c (range_with_len (a + 1) n)) → (b : Bool) → nat_eq a c ≡ b → In c (range_with_len a (suc n))
      go more true e = inl (sym (from_test a c e))
      go more false e = let other : a ≢ c = grind (arith, nat_tests) in inr (more (omega arith) (omega arith))

  -- are below its end
  range_below : (n a c : ℕ) → In c (range_with_len a n) → c < a + n
  range_below zero a c m = absurd m
  range_below (suc n) a c (inl e) = omega arith
  range_below (suc n) a c (inr m) = let l = range_below n (a + 1) c m in omega arith

  -- a set that is not within another has a column that the other lacks
  not_within : (s t : List ℕ) → within s t ≡ false → (c : ℕ) × (has s c ≡ true) × (has t c ≡ false)
  not_within [] t h = absurd (cc)
  not_within (d ∷ s) t h = go (not_within s t) (has t d) refl h
    where
      go : (within s t ≡ false → (c : ℕ) × (has s c ≡ true) × (has t c ≡ false)) → (b : Bool) → has t d ≡ b → (b && within s t) ≡ false → (c : ℕ) × (has (d ∷ s) c ≡ true) × (has t c ≡ false)
      go more true e h = let r = more h in (r.0, or_right (nat_eq d r.0) _ r.1, r.2)
      go more false e h = (d, or_left _ _ (to_test d d refl), e)

  -- as many steps as the set lacks columns lead to one that has all that it forces
  stays_by : (n : ℕ) (s : List ℕ) → missing (range_with_len 0 128) s ≤ n → Stays (grow f n s)
  stays_by zero s h = go (within (grown f s) s) refl
    where
      go : (b : Bool) → within (grown f s) s ≡ b → Stays s
      go true e = λ c l k. within_has (grown f s) s e c (grown_has s c l (inr k))
      go false e =
          let r = not_within (grown f s) s e in
          let l = (has_grown s r.0 r.1).0 in
          absurd (let less = missing_lt (range_with_len 0 128) s (grown f s) (λ c m k. grown_has s c (let n = range_below 128 0 c m in omega arith) (inl k)) r.0 (in_range 128 0 r.0 (omega arith) (omega arith)) r.2 r.1 in omega arith)
  stays_by (suc n) s h = go (stays_by n (grown f s)) (within (grown f s) s) refl
    where
      stays : within (grown f s) s ≡ true → Stays s
      stays e c l k = within_has (grown f s) s e c (grown_has s c l (inr k))

      go : (missing (range_with_len 0 128) (grown f s) ≤ n → Stays (grow f n (grown f s))) → (b : Bool) → within (grown f s) s ≡ b → Stays (grow f n (grown f s))
      go more true e = stays_grow n (grown f s) (stays_grown s (stays e))
      go more false e =
          let r = not_within (grown f s) s e in
          let l = (has_grown s r.0 r.1).0 in
          let less = missing_lt (range_with_len 0 128) s (grown f s) (λ c m k. grown_has s c (let n = range_below 128 0 c m in omega arith) (inl k)) r.0 (in_range 128 0 r.0 (omega arith) (omega arith)) r.2 r.1 in
          more (omega arith)

  -- a set lacks no more columns than there are
  missing_most : (n a : ℕ) (s : List ℕ) → missing (range_with_len a n) s ≤ n
  missing_most zero a s = omega arith
  missing_most (suc n) a s = go (missing_most n (a + 1) s) (has s a) refl
    where
      go : missing (range_with_len (a + 1) n) s ≤ n → (b : Bool) → has s a ≡ b → missing (range_with_len a (suc n)) s ≤ suc n
      go more true e = rw e (omega arith)
      go more false e = rw e (omega arith)

  -- the steps lead to the least closed set
  pub closure_least : (s : List ℕ) → IsLeast f s (closure_of f s)
  unfolding closure_of
  closure_least s = record {
    closed = stays_closed (grow f 128 s) (stays_by 128 s (missing_most 128 0 s));
    more = grow_has 128 s;
    least = λ t closed sub. grow_in 128 s t closed sub;
  }

  -- rows of which the facts hold
  module _ (rows : List (List Value)) (hold : FactsHold f rows) (s : List ℕ) (x y : List Value) (mx : Contains rows x) (my : Contains rows y) (same : Agree f.columns s x y) where
    -- the rows have one value in c
    alike : ℕ → Bool
    alike c = eq_by_cmp value_cmp (at f.columns x c) (at f.columns y c)

    -- s and the columns in which the rows are alike
    alike_columns : List ℕ
    alike_columns = s ++ columns_where alike

    -- in these they are alike
    alike_at : (c : ℕ) → has alike_columns c ≡ true → at f.columns x c ≡ at f.columns y c
    unfolding alike_columns alike
    alike_at c h = go (has_either s (columns_where alike) c h)
      where
        go : (has s c ≡ true) ⊎ (has (columns_where alike) c ≡ true) → at f.columns x c ≡ at f.columns y c
        go (inl k) = same c k
        go (inr k) = (value_eq-decides (at f.columns x c) (at f.columns y c)).0 (has_passes alike c k).1

    -- and every column in which they are alike is one of these
    at_alike : (c : ℕ) → c < 128 → at f.columns x c ≡ at f.columns y c → has alike_columns c ≡ true
    unfolding alike_columns alike
    at_alike c l e = has_second s (columns_where alike) c (has_where alike c l ∙ (value_eq-decides (at f.columns x c) (at f.columns y c)).1 e)

    -- so the facts force no more
    alike_closed : IsClosed f alike_columns
    alike_closed = record {
      constants = λ c l h. at_alike c l (hold.constants c l h x y mx my);
      determined = λ c l h k. at_alike c l (hold.determined c l h x y mx my (λ d m. alike_at d (within_has (by_of f c) alike_columns k d m)));
      equal = λ c d e h. at_alike d (equal_below c d e).1 (sym (hold.equal c d e x mx) ∙ alike_at c h ∙ hold.equal c d e y my);
    }

    -- and s is among them
    alike_from : (c : ℕ) → has s c ≡ true → has alike_columns c ≡ true
    unfolding alike_columns
    alike_from c h = has_first s (columns_where alike) c h

    -- rows that agree on a set agree on its closure, which is the least closed set
    pub closure_agrees : Agree f.columns (closure_of f s) x y
    closure_agrees c h = alike_at c ((closure_least s).least alike_columns alike_closed alike_from c h)

-- facts hold of rows in any order
pub hold_bag : BagLaw
hold_bag f xs ys p hold = record {
  over = λ x mx. hold.over x (back x mx);
  constants = λ c l h x y mx my. hold.constants c l h x y (back x mx) (back y my);
  determined = λ c l h x y mx my. hold.determined c l h x y (back x mx) (back y my);
  equal = λ c d e x mx. hold.equal c d e x (back x mx);
}
  where
    back : (x : List Value) → Contains ys x → Contains xs x
    back x m = Contains-permutation ys xs x (IsPermutation-sym xs ys p) m
