-- What is in ascending lists, and where.
use Rattle.std.proofs.Common.{◌≡◌, ℕ, zero, suc, ◌+◌, ◌<◌, ◌≤◌, Bool, true, false, cond, ◌||◌, List, [], ◌∷◌, ◌++◌, map, length, get_or, refl, sym, ap, ◌∙◌, subst, arith, nat_eq, nat_lt, ◌⊎◌, inl, inr}
use Rattle.std.specs.List.{filter, range_with_len}
use Rattle.std.proofs.lemmas.Bool.Decides.{nat_tests}
use Rattle.col_sets.specs.Sets.{has, columns_where, union, rank, IsColumnSet}
use Rattle.col_sets.specs.Columns.{has_where, sets_same, columns_where-set}
use Rattle.col_sets.specs.Tests.{either, or_left, from_test}
use Rattle.column_ranks.specs.Rising.{IsRising}
use Rattle.col_sets.specs.Listed.{has-append}

pub rising_le : (a b : ℕ) (s : List ℕ) → IsRising a s b → a ≤ b
rising_le a b [] h = h
rising_le a b (c ∷ s) h = let l : a ≤ c = h.0 in let m : suc c ≤ b = rising_le (suc c) b s h.1 in omega arith

-- each column is in its bounds
pub rising_from : (a b : ℕ) (s : List ℕ) (c : ℕ) → IsRising a s b → has s c ≡ true → a ≤ c
rising_from a b [] c h k = absurd (cc)
rising_from a b (d ∷ s) c h k = go (either _ _ k) (rising_from (suc d) b s c h.1)
  where
    go : (nat_eq d c ≡ true) ⊎ (has s c ≡ true) → (has s c ≡ true → suc d ≤ c) → a ≤ c
    go (inl e) more = let same : d ≡ c = from_test d c e in let l : a ≤ d = h.0 in omega arith
    go (inr m) more = let l : a ≤ d = h.0 in let n : suc d ≤ c = more m in omega arith

pub rising_below : (a b : ℕ) (s : List ℕ) (c : ℕ) → IsRising a s b → has s c ≡ true → c < b
rising_below a b [] c h k = absurd (cc)
rising_below a b (d ∷ s) c h k = go (either _ _ k) (rising_below (suc d) b s c h.1)
  where
    go : (nat_eq d c ≡ true) ⊎ (has s c ≡ true) → (has s c ≡ true → c < b) → c < b
    go (inl e) more = let same : d ≡ c = from_test d c e in let l : suc d ≤ b = rising_le (suc d) b s h.1 in omega arith
    go (inr m) more = more m

pub rising_append : (a m b : ℕ) (s t : List ℕ) → IsRising a s m → IsRising m t b → IsRising a (s ++ t) b
rising_append a m b [] [] h k = let l : a ≤ m = h in let n : m ≤ b = k in omega arith
rising_append a m b [] (c ∷ t) h k = let l : a ≤ m = h in let n : m ≤ c = k.0 in (omega arith, k.1)
rising_append a m b (c ∷ s) t h k = (h.0, rising_append (suc c) m b s t h.1 k)

pub rising_shift : (n a b : ℕ) (s : List ℕ) → IsRising a s b → IsRising (n + a) (map (λ c. n + c) s) (n + b)
rising_shift n a b [] h = let l : a ≤ b = h in omega arith
rising_shift n a b (c ∷ s) h =
    let l : a ≤ c = h.0 in
    let e : n + suc c ≡ suc (n + c) = omega arith in
    (omega arith, subst (λ (i : ℕ). IsRising i (map (λ d. n + d) s) (n + b)) e (rising_shift n (suc c) b s h.1))

pub rising_range : (a n b : ℕ) → a + n ≡ b → IsRising a (range_with_len a n) b
rising_range a zero b e = omega arith
rising_range a (suc n) b e =
    let s : a + 1 ≡ suc a = omega arith in
    (omega arith, subst (λ (i : ℕ). IsRising i (range_with_len (a + 1) n) b) s (rising_range (a + 1) n b (omega arith)))

pub rising_filter : (p : ℕ → Bool) (a b : ℕ) (s : List ℕ) → IsRising a s b → IsRising a (filter p s) b
rising_filter p a b [] h = h
rising_filter p a b (c ∷ s) h = go (p c) (rising_filter p (suc c) b s h.1)
  where
    down : (t : List ℕ) → IsRising (suc c) t b → IsRising a t b
    down [] k = let l : a ≤ c = h.0 in let m : suc c ≤ b = k in omega arith
    down (d ∷ t) k = let l : a ≤ c = h.0 in let m : suc c ≤ d = k.0 in (omega arith, k.1)

    go : (t : Bool) → IsRising (suc c) (filter p s) b → IsRising a (cond t (c ∷ filter p s) (filter p s)) b
    go true k = (h.0, k)
    go false k = down (filter p s) k

-- a rising list of columns below 128 is a set
range_kept : (s : List ℕ) (a n b : ℕ) → IsRising a s b → b ≤ a + n → (p : ℕ → Bool) → ((c : ℕ) → a ≤ c → p c ≡ has s c) → filter p (range_with_len a n) ≡ s
range_kept [] a zero b h l p same = refl
range_kept [] a (suc n) b h l p same =
    let e : p a ≡ false = same a (omega arith) in
    rw e (range_kept [] (a + 1) n (a + 1) (omega arith) (omega arith) p (λ c m. same c (omega arith)))
range_kept (d ∷ s) a zero b h l p same =
    let k : a ≤ d = h.0 in let m : suc d ≤ b = rising_le (suc d) b s h.1 in absurd (omega arith)
range_kept (d ∷ s) a (suc n) b h l p same =
    go (λ u l same. range_kept s (a + 1) n b u l p same) (λ h l same. range_kept (d ∷ s) (a + 1) n b h l p same) (nat_eq d a) refl
  where
    go : (IsRising (a + 1) s b → b ≤ a + 1 + n → ((c : ℕ) → a + 1 ≤ c → p c ≡ has s c) → filter p (range_with_len (a + 1) n) ≡ s)
        → (IsRising (a + 1) (d ∷ s) b → b ≤ a + 1 + n → ((c : ℕ) → a + 1 ≤ c → p c ≡ has (d ∷ s) c) → filter p (range_with_len (a + 1) n) ≡ d ∷ s)
        → (t : Bool) → nat_eq d a ≡ t → filter p (range_with_len a (suc n)) ≡ d ∷ s
    go next later true e =
        let f : d ≡ a = from_test d a e in
        let yes : p a ≡ true = same a (omega arith) ∙ or_left _ _ e in
        let up : IsRising (a + 1) s b = subst (λ (i : ℕ). IsRising i s b) (omega arith) h.1 in
        let rest = next up (omega arith) (λ c m. same c (omega arith) ∙ other c m f) in
        rw yes (rw rest (ap (λ (i : ℕ). i ∷ s) (sym f)))
      where
        other : (c : ℕ) → a + 1 ≤ c → d ≡ a → has (d ∷ s) c ≡ has s c
        other c m f = let no : nat_eq d c ≡ false = grind (arith, nat_tests) in rw no refl
    go next later false e =
        let k : a ≤ d = h.0 in
        let ne : a + 1 ≤ d = grind (arith, nat_tests) in
        let none : has s a ≡ false = above s (λ m. rising_from (suc d) b s a h.1 m) in
        let no : p a ≡ false = same a (omega arith) ∙ rw (e, none) refl in
        rw no (later (ne, h.1) (omega arith) (λ c m. same c (omega arith)))
      where
        above : (t : List ℕ) → (has t a ≡ true → suc d ≤ a) → has t a ≡ false
        above t f = at (has t a) refl
          where
            at : (v : Bool) → has t a ≡ v → has t a ≡ false
            at true q = let l : suc d ≤ a = f q in let k : a ≤ d = h.0 in absurd (omega arith)
            at false q = q

pub rising_set : (b : ℕ) (s : List ℕ) → IsRising 0 s b → b ≤ 128 → IsColumnSet s
unfolding columns_where
rising_set b s h l = range_kept s 0 128 b h (omega arith) (has s) (λ c m. refl)

-- the union of a list and a later one is the one behind the other
pub union_append : (b : ℕ) (s t : List ℕ) → IsRising 0 (s ++ t) b → b ≤ 128 → union s t ≡ s ++ t
union_append b s t h l =
    sets_same (union s t) (s ++ t) (columns_where-set _) (rising_set b (s ++ t) h l)
    (λ c m. has_where (λ d. has s d || has t d) c m ∙ sym (has-append s t c))

-- ---- ranks

pub rank_below : (a b : ℕ) (s : List ℕ) (x : ℕ) → IsRising a s b → x ≤ a → rank s x ≡ 0
rank_below a b [] x h l = refl
rank_below a b (c ∷ s) x h l =
    let k : a ≤ c = h.0 in
    let no : nat_lt c x ≡ false = grind (arith, nat_tests) in
    rw no (rank_below (suc c) b s x h.1 (omega arith))

at_least : (a b : ℕ) (s : List ℕ) (p : ℕ) → IsRising a s b → b ≤ 128 → a ≤ get_or s p 128
at_least a b [] p h l = let k : a ≤ b = h in omega arith
at_least a b (c ∷ s) zero h l = h.0
at_least a b (c ∷ s) (suc p) h l = let k : a ≤ c = h.0 in let m : suc c ≤ get_or s p 128 = at_least (suc c) b s p h.1 l in omega arith

-- the rank of the column at a place is that of the place among as many numbers, also past the end
pub rank_at : (a b : ℕ) (s : List ℕ) (e p : ℕ) → IsRising a s b → b ≤ 128 → rank s (get_or s p 128) ≡ rank (range_with_len e (length s)) (e + p)
rank_at a b [] e p h l = refl
rank_at a b (c ∷ s) e zero h l =
    let none : nat_lt c c ≡ false = grind (arith, nat_tests) in
    let there : nat_lt e (e + 0) ≡ false = grind (arith, nat_tests) in
    let left : rank s c ≡ 0 = rank_below (suc c) b s c h.1 (omega arith) in
    let right : rank (range_with_len (e + 1) (length s)) (e + 0) ≡ 0 = rank_below (e + 1) (e + 1 + length s) (range_with_len (e + 1) (length s)) (e + 0) (rising_range (e + 1) (length s) _ refl) (omega arith) in
    rw (none, there) (left ∙ sym right)
rank_at a b (c ∷ s) e (suc p) h l =
    let far : suc c ≤ get_or s p 128 = at_least (suc c) b s p h.1 l in
    let yes : nat_lt c (get_or s p 128) ≡ true = grind (arith, nat_tests) in
    let there : nat_lt e (e + suc p) ≡ true = grind (arith, nat_tests) in
    let same : e + suc p ≡ e + 1 + p = omega arith in
    rw (yes, there) (ap suc (rank_at (suc c) b s (e + 1) p h.1 l ∙ ap (rank (range_with_len (e + 1) (length s))) (sym same)))

pub rank_shift : (n : ℕ) (s : List ℕ) (x : ℕ) → rank (map (λ c. n + c) s) (n + x) ≡ rank s x
rank_shift n [] x = refl
rank_shift n (c ∷ s) x = go (rank_shift n s x) (nat_lt c x) refl
  where
    go : rank (map (λ c. n + c) s) (n + x) ≡ rank s x → (b : Bool) → nat_lt c x ≡ b → rank (map (λ c. n + c) (c ∷ s)) (n + x) ≡ rank (c ∷ s) x
    go h true e = let f : nat_lt (n + c) (n + x) ≡ true = grind (arith, nat_tests) in rw (e, f) (ap suc h)
    go h false e = let f : nat_lt (n + c) (n + x) ≡ false = grind (arith, nat_tests) in rw (e, f) h
