-- Constants that one of the first few places of a list states, place after place.
use Rattle.std.proofs.Common.{◌≡◌, ◌≢◌, ℕ, ◌+◌, ◌<◌, Bool, true, false, refl, subst, arith, ◌⊎◌, inl, inr, nat_eq}
use Rattle.std.proofs.lemmas.Bool.Decides.{nat_tests}
use Rattle.col_sets.specs.Sets.{has}
use Rattle.col_sets.specs.Tests.{from_test}
use Rattle.fd_closure.specs.declared.facts.Facts.{Facts}
use Rattle.logical_dag.specs.Known.{AreConstants}
use Rattle.logical_dag.proofs.Either.{from_either, either_both, either_second, regrouped, ungrouped, below_or_last}
use Rattle.logical_dag.proofs.Constants.{constants_same, constants_chain, constants_kept}

-- one of the first n states it
abbrev pub OneBelow : (ℕ → ℕ → Type 0) → ℕ → ℕ → Type 0
OneBelow N n c = (i : ℕ) × (i < n) × N i c

module _ (into : Facts) (N : ℕ → ℕ → Type 0) where
  pub one_more : (n c : ℕ) → OneBelow N n c → OneBelow N (n + 1) c
  one_more n c m = let l : m.0 < n = m.1 in (m.0, omega arith, m.2)

  -- the last one or one before it
  pub one_split : (n c : ℕ) → OneBelow N (n + 1) c → OneBelow N n c ⊎ N n c
  one_split n c m = either_both (λ l. (m.0, l, m.2)) (λ e. subst (λ (i : ℕ). N i c) e m.2) (below_or_last m.0 n m.1)

  pub constants_first : AreConstants into (λ c. (has into.constants c ≡ true) ⊎ OneBelow N 0 c)
  constants_first = constants_kept into (OneBelow N 0) (λ c m. let l : m.0 < 0 = m.1 in omega arith)

  pub constants_more : (f g : Facts) (n : ℕ) → AreConstants f (λ c. (has into.constants c ≡ true) ⊎ OneBelow N n c) → AreConstants g (λ c. (has f.constants c ≡ true) ⊎ N n c)
      → AreConstants g (λ c. (has into.constants c ≡ true) ⊎ OneBelow N (n + 1) c)
  constants_more f g n h k =
      constants_same g (λ c. ((has into.constants c ≡ true) ⊎ OneBelow N n c) ⊎ N n c) (λ c. (has into.constants c ≡ true) ⊎ OneBelow N (n + 1) c)
      (constants_chain f g (λ c. (has into.constants c ≡ true) ⊎ OneBelow N n c) (N n) h k)
      (λ c m. either_second (from_either (one_more n c) (λ k. (n, omega arith, k))) (regrouped m)) (λ c m. ungrouped (either_second (one_split n c) m))

  pub constants_done : (f : Facts) (n : ℕ) (D : ℕ → Type 0) → AreConstants f (λ c. (has into.constants c ≡ true) ⊎ OneBelow N n c) → ((c : ℕ) → OneBelow N n c → D c) → ((c : ℕ) → D c → OneBelow N n c)
      → AreConstants f (λ c. (has into.constants c ≡ true) ⊎ D c)
  constants_done f n D h there back = constants_same f (λ c. (has into.constants c ≡ true) ⊎ OneBelow N n c) (λ c. (has into.constants c ≡ true) ⊎ D c) h (λ c. either_second (there c)) (λ c. either_second (back c))
