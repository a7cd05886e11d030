-- The constants that literal items give, one after the other.
use Rattle.std.proofs.Common.{◌≡◌, ℕ, zero, suc, ◌+◌, ◌<◌, ◌≤◌, true, List, [], ◌∷◌, length, sym, ◌∙◌, subst, arith, ◌⊎◌, inl, inr, Option, Some, slice_get}
use Rattle.std.specs.Prelude.{IsSomeAnd}
use Rattle.col_sets.specs.Sets.{has}
use Rattle.scope_expr.specs.declared.expr.Expr.{Expr}
use Rattle.fd_closure.specs.declared.facts.Facts.{Facts}
use Rattle.logical_dag.specs.Facts.{is_literal}
use Rattle.logical_dag.specs.Known.{AreConstants}
use Rattle.logical_dag.proofs.Either.{either_second}
use Rattle.logical_dag.proofs.Constants.{constants_same}
use Rattle.logical_dag.proofs.OneBelow.{OneBelow, constants_more}

-- the item at a place is a literal, and gives the column
abbrev pub IsLiteralAt : List Expr → List ℕ → ℕ → ℕ → Type 0
IsLiteralAt items cols i c = (slice_get cols i ≡ Some c) × IsSomeAnd (slice_get items i) (λ e. is_literal e ≡ true)

-- the next item, if it is a literal
pub literal_step : (into f g : Facts) (items : List Expr) (cols : List ℕ) (n : ℕ) (item : Expr) (column : Option ℕ) → slice_get items n ≡ Some item → column ≡ slice_get cols n
    → AreConstants g (λ c. (has f.constants c ≡ true) ⊎ ((is_literal item ≡ true) × (column ≡ Some c)))
    → AreConstants f (λ c. (has into.constants c ≡ true) ⊎ OneBelow (IsLiteralAt items cols) n c) → AreConstants g (λ c. (has into.constants c ≡ true) ⊎ OneBelow (IsLiteralAt items cols) (n + 1) c)
literal_step into f g items cols n item column at is step h =
    constants_more into (IsLiteralAt items cols) f g n h
    (constants_same g (λ c. (has f.constants c ≡ true) ⊎ ((is_literal item ≡ true) × (column ≡ Some c))) (λ c. (has f.constants c ≡ true) ⊎ IsLiteralAt items cols n c) step
    (λ c. either_second (λ m. (sym is ∙ m.1, subst (λ (o : Option Expr). IsSomeAnd o (λ e. is_literal e ≡ true)) (sym at) m.0)))
    (λ c. either_second (λ m. (subst (λ (o : Option Expr). IsSomeAnd o (λ e. is_literal e ≡ true)) at m.1, is ∙ m.0))))

-- a literal item stands in the list
literal_within : (items : List Expr) (i : ℕ) → IsSomeAnd (slice_get items i) (λ e. is_literal e ≡ true) → i < length items
literal_within [] i h = absurd h
literal_within (e ∷ items) zero h = omega arith
literal_within (e ∷ items) (suc i) h = let l = literal_within items i h in omega arith

pub literals_back : (items : List Expr) (cols : List ℕ) (n c : ℕ) → length items ≤ n → (i : ℕ) × (slice_get cols i ≡ Some c) × IsSomeAnd (slice_get items i) (λ e. is_literal e ≡ true) → OneBelow (IsLiteralAt items cols) n c
literals_back items cols n c l m = let k = literal_within items m.0 m.2 in (m.0, omega arith, (m.1, m.2))

pub literals_there : (items : List Expr) (cols : List ℕ) (n c : ℕ) → OneBelow (IsLiteralAt items cols) n c → (i : ℕ) × (slice_get cols i ≡ Some c) × IsSomeAnd (slice_get items i) (λ e. is_literal e ≡ true)
literals_there items cols n c m = (m.0, m.2.0, m.2.1)
