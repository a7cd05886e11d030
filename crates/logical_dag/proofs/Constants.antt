-- Constants of facts: said otherwise, none more, one more, and of one step after another.
use Rattle.std.proofs.Common.{◌≡◌, ℕ, ◌<◌, true, List, sym, subst, ◌⊎◌, inl, inr}
use Rattle.col_sets.specs.Sets.{has, with_column}
use Rattle.col_sets.specs.Columns.{with_has, has_with}
use Rattle.fd_closure.specs.declared.facts.Facts.{Facts}
use Rattle.logical_dag.specs.Known.{AreConstants}
use Rattle.logical_dag.proofs.Either.{from_either, either_first}

-- constants that are said otherwise of the columns below 128
pub constants_same_low : (f : Facts) (C D : ℕ → Type 0) → AreConstants f C → ((c : ℕ) → c < 128 → C c → D c) → ((c : ℕ) → c < 128 → D c → C c) → AreConstants f D
constants_same_low f C D h there back c l = (λ m. there c l ((h c l).0 m), λ m. (h c l).1 (back c l m))

-- and of all columns
pub constants_same : (f : Facts) (C D : ℕ → Type 0) → AreConstants f C → ((c : ℕ) → C c → D c) → ((c : ℕ) → D c → C c) → AreConstants f D
constants_same f C D h there back = constants_same_low f C D h (λ c l. there c) (λ c l. back c)

-- facts of the same constants
pub constants_moved : (f g : Facts) (C : ℕ → Type 0) → g.constants ≡ f.constants → AreConstants f C → AreConstants g C
constants_moved f g C e h c l = (λ m. (h c l).0 (subst (λ (s : List ℕ). has s c ≡ true) e m), λ m. subst (λ (s : List ℕ). has s c ≡ true) (sym e) ((h c l).1 m))

-- constants of one step after another
pub constants_chain : (f g : Facts) (C D : ℕ → Type 0) → AreConstants f C → AreConstants g (λ c. (has f.constants c ≡ true) ⊎ D c) → AreConstants g (λ c. C c ⊎ D c)
constants_chain f g C D h k c l = (λ m. either_first (h c l).0 ((k c l).0 m), λ m. (k c l).1 (either_first (h c l).1 m))

-- nothing more is constant
pub constants_kept : (f : Facts) (D : ℕ → Type 0) → ((c : ℕ) → D c → ⊥) → AreConstants f (λ c. (has f.constants c ≡ true) ⊎ D c)
constants_kept f D none c l = (inl, from_either (λ m. m) (λ m. absurd (none c m)))

-- a column more is constant
pub constants_with : (f g : Facts) (d : ℕ) (D : ℕ → Type 0) → g.constants ≡ with_column f.constants d → ((c : ℕ) → D c → c ≡ d) → ((c : ℕ) → c ≡ d → D c) → AreConstants g (λ c. (has f.constants c ≡ true) ⊎ D c)
constants_with f g d D e only just c l = (
  λ m. from_either (λ i. inr (just c i)) inl (with_has f.constants d c (subst (λ (s : List ℕ). has s c ≡ true) e m)),
  λ m. subst (λ (s : List ℕ). has s c ≡ true) (sym e) (has_with f.constants d c l (from_either inr (λ n. inl (only c n)) m)),
)
