-- The equalities that the pairs of a join state, one after the other.
use Rattle.std.proofs.Common.{◌≡◌, ◌≢◌, ℕ, ◌+◌, ◌<◌, ◌≤◌, Bool, true, false, List, length, refl, sym, ap, ap₂, subst, arith, ◌⊎◌, inl, inr, nat_eq, slice_index_or}
use Rattle.std.proofs.lemmas.Bool.Decides.{nat_tests}
use Rattle.std.specs.Prelude.{All, Contains}
use Rattle.std.proofs.lemmas.List.Elements.{All-contains}
use Rattle.col_sets.specs.Tests.{from_test}
use Rattle.fd_closure.specs.declared.facts.Facts.{Facts}
use Rattle.fd_closure.specs.Known.{equal_of, IsMerged}
use Rattle.logical_dag.specs.Facts.{stated}
use Rattle.logical_dag.specs.Known.{IsOwn, AreClasses}
use Rattle.list_lemmas.specs.Reading.{one_read}
use Rattle.logical_dag.proofs.Either.{either_both, either_second, below_or_last}
use Rattle.logical_dag.proofs.Classes.{classes_same, classes_merged, classes_kept}

-- one pair of the first n
abbrev pub PairBelow : List (ℕ × ℕ) → ℕ → ℕ → ℕ → Type 0
PairBelow on n c d = (i : ℕ) × (i < n) × (i < length on) × (slice_index_or on i (c, d) ≡ (c, d))

module _ (into : Facts) (on : List (ℕ × ℕ)) (own : IsOwn into) where
  pub pairs_first : AreClasses into (λ c d. (equal_of into c d ≡ true) ⊎ PairBelow on 0 c d)
  pairs_first = classes_kept into (PairBelow on 0) own (λ c d m. let l : m.0 < 0 = m.1 in omega arith)

  pub pairs_step : (f g : Facts) (n a b : ℕ) → n < length on → slice_index_or on n (a, b) ≡ (a, b) → All (λ p. (p.0 < 128) × (p.1 < 128)) on → IsMerged f a b g
      → AreClasses f (λ c d. (equal_of into c d ≡ true) ⊎ PairBelow on n c d) → AreClasses g (λ c d. (equal_of into c d ≡ true) ⊎ PairBelow on (n + 1) c d)
  pairs_step f g n a b l e lows merged h =
      classes_same g (λ c d. ((equal_of into c d ≡ true) ⊎ PairBelow on n c d) ⊎ ((c ≡ a) × (d ≡ b)))
      (classes_merged f (λ c d. (equal_of into c d ≡ true) ⊎ PairBelow on n c d) h a b g low.0 low.1 merged)
      (λ c d. (equal_of into c d ≡ true) ⊎ PairBelow on (n + 1) c d) (λ c d m. stated (there c d m)) (λ c d m. stated (back c d m))
    where
      low : (a < 128) × (b < 128)
      low = All-contains (λ p. (p.0 < 128) × (p.1 < 128)) on (a, b) lows (n, l, e)

      there : (c d : ℕ) → ((equal_of into c d ≡ true) ⊎ PairBelow on n c d) ⊎ ((c ≡ a) × (d ≡ b)) → (equal_of into c d ≡ true) ⊎ PairBelow on (n + 1) c d
      there c d (inl (inl m)) = inl m
      there c d (inl (inr m)) = let k : m.0 < n = m.1 in inr (m.0, omega arith, m.2, m.3)
      there c d (inr m) =
          let up : n < n + 1 = omega arith in
          let same : (c, d) ≡ (a, b) = ap₂ (λ (x y : ℕ). (x, y)) m.0 m.1 in
          inr (n, up, l, subst (λ (p : ℕ × ℕ). slice_index_or on n p ≡ p) (sym same) e)

      back : (c d : ℕ) → (equal_of into c d ≡ true) ⊎ PairBelow on (n + 1) c d → ((equal_of into c d ≡ true) ⊎ PairBelow on n c d) ⊎ ((c ≡ a) × (d ≡ b))
      back c d (inl m) = inl (inl m)
      back c d (inr m) = either_both (λ k. inr (m.0, k, m.2, m.3)) last (below_or_last m.0 n m.1)
        where
          last : m.0 ≡ n → (c ≡ a) × (d ≡ b)
          last k =
              let at : slice_index_or on n (c, d) ≡ (c, d) = subst (λ (i : ℕ). slice_index_or on i (c, d) ≡ (c, d)) k m.3 in
              let same : (c, d) ≡ (a, b) = one_read on n (c, d) (a, b) l (sym at) (sym e) in
              (ap (λ p. p.0) same, ap (λ p. p.1) same)

  pub pairs_done : (f : Facts) (n : ℕ) → length on ≤ n → AreClasses f (λ c d. (equal_of into c d ≡ true) ⊎ PairBelow on n c d) → AreClasses f (λ c d. (equal_of into c d ≡ true) ⊎ Contains on (c, d))
  pairs_done f n l h = classes_same f (λ c d. (equal_of into c d ≡ true) ⊎ PairBelow on n c d) h (λ c d. (equal_of into c d ≡ true) ⊎ Contains on (c, d)) (λ c d m. stated (either_second (λ p. (p.0, p.2, p.3)) m)) (λ c d m. stated (either_second (back c d) m))
    where
      back : (c d : ℕ) → Contains on (c, d) → PairBelow on n c d
      back c d m = let k : m.0 < length on = m.1 in (m.0, omega arith, m.1, m.2)
