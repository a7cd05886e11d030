-- One pass, and passes until nothing is added.
use Rattle.std.proofs.Common.{◌≡◌, ℕ, zero, suc, ◌+◌, ◌-◌, ◌<◌, Bool, true, false, ◌&&◌, ◌||◌, List, [], refl, sym, ap, ap₂, ◌∙◌, subst, arith, nat_eq, nat_lt, add-one}
use Rattle.std.proofs.lemmas.Bool.Decides.{nat_tests}
use Rattle.col_sets.specs.Sets.{has, within, columns_where, with_column}
use Rattle.col_sets.specs.Tests.{same_tests, from_test}
use Rattle.col_sets.specs.Columns.{has-columns_where, has_where, columns_same, columns_none, within_has}
use Rattle.fd_closure.specs.Closure.{any_below, classes_of, forces, grown, grow, closure_of}
use Rattle.fd_closure.specs.Known.{class_of}
use Rattle.fd_closure.specs.Least.{IsLeast}
use Rattle.fd_closure.specs.Laws.{closure_least}
use Rattle.fd_closure.specs.declared.facts.Facts.{Facts}

module _ (f : Facts) (s : List ℕ) where
  -- s and what it forces below i
  abbrev pub up_to : ℕ → ℕ → Bool
  up_to i c = has s c || (nat_lt c i && forces f s c)

  pub pass_start : (t : List ℕ) → t ≡ columns_where (λ d. has [] d || has s d) → t ≡ columns_where (up_to 0)
  pass_start t e = e ∙ columns_same _ _ (λ c l. go c (has s c) (nat_lt c 0) (grind (arith, nat_tests)))
    where
      go : (c : ℕ) (a b : Bool) → b ≡ false → a ≡ (a || (b && forces f s c))
      go c true b e = refl
      go c false b e = rw e refl

  go_next : (i c : ℕ) → nat_eq i c ≡ false → nat_lt c i ≡ nat_lt c (i + 1)
  go_next i c e = grind (arith, nat_tests)

  pub pass_put : (i : ℕ) → i < 128 → forces f s i ≡ true → columns_where (λ d. nat_eq i d || has (columns_where (up_to i)) d) ≡ columns_where (up_to (i + 1))
  pass_put i l h = columns_same _ _ (λ c m. go c m (nat_eq i c) refl)
    where
      inner : (c : ℕ) → c < 128 → has (columns_where (up_to i)) c ≡ up_to i c
      inner c m = let e : nat_lt c 128 ≡ true = grind (arith, nat_tests) in has-columns_where (up_to i) c ∙ rw e refl

      last : (a : Bool) → (a || true) ≡ true
      last true = refl
      last false = refl

      go : (c : ℕ) → c < 128 → (b : Bool) → nat_eq i c ≡ b → (nat_eq i c || has (columns_where (up_to i)) c) ≡ up_to (i + 1) c
      go c m true e =
          let same : i ≡ c = from_test i c e in
          let in_it : nat_lt c (i + 1) ≡ true = grind (arith, nat_tests) in
          let k : forces f s c ≡ true = subst (λ (j : ℕ). forces f s j ≡ true) same h in
          rw e (sym (ap₂ (λ v w. has s c || (v && w)) in_it k ∙ last (has s c)))
      go c m false e = rw e (inner c m ∙ ap (λ v. has s c || (v && forces f s c)) (go_next i c e))

  pub pass_skip : (i : ℕ) → forces f s i ≡ false → columns_where (up_to i) ≡ columns_where (up_to (i + 1))
  pass_skip i h = columns_same _ _ (λ c m. go c (nat_eq i c) refl)
    where
      none : (v : Bool) → (v && false) ≡ false
      none true = refl
      none false = refl

      go : (c : ℕ) → (b : Bool) → nat_eq i c ≡ b → up_to i c ≡ up_to (i + 1) c
      go c true e =
          let k : forces f s c ≡ false = subst (λ (j : ℕ). forces f s j ≡ false) (from_test i c e) h in
          ap (λ v. has s c || v) (ap (λ w. nat_lt c i && w) k ∙ none (nat_lt c i) ∙ sym (ap (λ w. nat_lt c (i + 1) && w) k ∙ none (nat_lt c (i + 1))))
      go c false e = ap (λ v. has s c || (v && forces f s c)) (go_next i c e)

  pub pass_end : columns_where (up_to 128) ≡ grown f s
  pass_end = columns_same _ _ (λ c m. let e : nat_lt c 128 ≡ true = grind (arith, nat_tests) in ap (λ v. has s c || (v && forces f s c)) e)

module _ (f : Facts) where
  pub grow_last : (n : ℕ) (s : List ℕ) → grow f (n + 1) s ≡ grown f (grow f n s)
  grow_last zero s = refl
  grow_last (suc n) s = let e : suc n + 1 ≡ suc (n + 1) = omega arith in rw e (grow_last n (grown f s))

  -- nothing is added any more
  same_again : (s : List ℕ) → within (grown f (grown f s)) (grown f s) ≡ true → grown f (grown f s) ≡ grown f s
  same_again s h = columns_same _ _ (λ c m. same_tests _ _ (λ k. back c m k) (λ k. forth c m k))
    where
      into : (p : ℕ → Bool) (c : ℕ) → c < 128 → has (columns_where p) c ≡ p c
      into p c m = let e : nat_lt c 128 ≡ true = grind (arith, nat_tests) in has-columns_where p c ∙ rw e refl

      back : (c : ℕ) → c < 128 → (has (grown f s) c || forces f (grown f s) c) ≡ true → (has s c || forces f s c) ≡ true
      back c m k = sym (into (λ c. has s c || forces f s c) c m) ∙ within_has _ _ h c (into (λ c. has (grown f s) c || forces f (grown f s) c) c m ∙ k)

      forth : (c : ℕ) → c < 128 → (has s c || forces f s c) ≡ true → (has (grown f s) c || forces f (grown f s) c) ≡ true
      forth c m k = let e : has (grown f s) c ≡ true = into (λ c. has s c || forces f s c) c m ∙ k in rw e refl

  still : (n : ℕ) (t : List ℕ) → grown f t ≡ t → grow f n t ≡ t
  still zero t e = refl
  still (suc n) t e = ap (grow f n) e ∙ still n t e

  split : (n k : ℕ) (s : List ℕ) → grow f (k + n) s ≡ grow f n (grow f k s)
  split n zero s = let e : 0 + n ≡ n = omega arith in rw e refl
  split n (suc k) s = let e : suc k + n ≡ suc (k + n) = omega arith in rw e (split n k (grown f s))

  stops_after : (k : ℕ) (s : List ℕ) → k < 128 → within (grown f (grow f (k + 1) s)) (grow f (k + 1) s) ≡ true → grow f (k + 1) s ≡ closure_of f s
  unfolding closure_of
  stops_after k s l h =
      let last = grow_last k s in
      let e : grown f (grow f (k + 1) s) ≡ grow f (k + 1) s = rw last (same_again (grow f k s) (rw last at h)) in
      let n : k + 1 + (127 - k) ≡ 128 = omega arith in
      sym (still (127 - k) (grow f (k + 1) s) e) ∙ sym (split (127 - k) (k + 1) s) ∙ ap (λ n. grow f n s) n

  pub stops : (k : ℕ) (s t : List ℕ) → 0 < k → k < 128 → t ≡ grow f k s → within (grown f t) t ≡ true → t ≡ closure_of f s
  stops zero s t l m e h = absurd (omega arith)
  stops (suc k) s t l m e h =
      let n : suc k ≡ k + 1 = omega arith in
      let g : t ≡ grow f (k + 1) s = e ∙ ap (λ n. grow f n s) n in
      g ∙ stops_after k s (omega arith) (subst (λ (u : List ℕ). within (grown f u) u ≡ true) g h)

  pub at_last : (k : ℕ) (s t : List ℕ) → t ≡ grow f k s → k ≡ 128 → t ≡ closure_of f s
  unfolding closure_of
  at_last k s t e h = e ∙ ap (λ n. grow f n s) h

module _ (f : Facts) (s : List ℕ) where
  -- n is the class of a column of s below i
  abbrev pub met : ℕ → ℕ → Bool
  met i n = any_below (λ c. has s c && nat_eq (class_of f c) n) i

  met_next : (i n : ℕ) → met (i + 1) n ≡ ((has s i && nat_eq (class_of f i) n) || met i n)
  unfolding any_below
  met_next i n = ap (λ (k : ℕ). met k n) (add-one i)

  pub met_start : [] ≡ columns_where (met 0)
  unfolding any_below
  met_start = sym columns_none

  pub met_put : (i : ℕ) → has s i ≡ true → with_column (columns_where (met i)) (class_of f i) ≡ columns_where (met (i + 1))
  met_put i h = columns_same _ _ (λ n l. ap (λ v. nat_eq (class_of f i) n || v) (has_where (met i) n l) ∙ sym (met_next i n ∙ ap (λ v. (v && nat_eq (class_of f i) n) || met i n) h))

  pub met_skip : (i : ℕ) → has s i ≡ false → columns_where (met i) ≡ columns_where (met (i + 1))
  met_skip i h = columns_same _ _ (λ n l. sym (met_next i n ∙ ap (λ v. (v && nat_eq (class_of f i) n) || met i n) h))

  pub met_end : (i : ℕ) → i ≡ 128 → columns_where (met i) ≡ classes_of f s
  met_end i e = ap (λ (k : ℕ). columns_where (met k)) e

-- what the steps end in is the least closed set
pub least_of : (f : Facts) (from s : List ℕ) → s ≡ closure_of f from → IsLeast f from s
least_of f from s e = subst (λ (t : List ℕ). IsLeast f from t) (sym e) (closure_least f from)
