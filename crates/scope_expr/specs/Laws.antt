-- What typed expressions are worth, as facts.
use Rattle.std.specs.Prelude.{◌≡◌, ◌≤◌, ◌⊎◌, ℕ, Bool, true, List, Any, Contains, Ok, is_some, count_by}
use Rattle.scope_value.specs.declared.value.Value.{Value}
use Rattle.scope_value.specs.declared.schema.ColType.{ColType}
use Rattle.scope_value.specs.Fits.{Fits}
use Rattle.scope_expr.specs.declared.expr.Expr.{Expr}
use Rattle.script_trees.specs.declared.raw.RawExpr.{RawExpr}
use Rattle.scope_expr.specs.declared.scope.Scope.{Scope}
use Rattle.scope_expr.specs.Kinds.{kind_of, is_typed, EachColumn}
use Rattle.scope_expr.specs.Value.{value, column_value}
use Rattle.scope_expr.specs.Moved.{columns, moved}
use Rattle.col_sets.specs.Sets.{has}
use Rattle.script_trees.specs.declared.raw.RawRef.{RawRef}
use Rattle.scope_expr.specs.Names.{typed}
use Rattle.scope_expr.specs.Sight.{is_named, AreDistinct}

-- on a row where the value of each of its columns fits the column's type, the value of a typed expression fits its type
abbrev pub IsValueFitting : Type 0
IsValueFitting = (e : Expr) (cols : List ℕ) (row : List Value) → is_typed e ≡ true → EachColumn (λ c k. Fits k (column_value cols c row)) e → Fits (kind_of e) (value e cols row)

-- the column is one of the scope's, with that type
abbrev pub IsInScope : Scope → ℕ → ColType → Type 0
IsInScope names c k = Any (λ entry. (entry.id ≡ c) × (entry.kind ≡ k)) names.entries ⊎ Contains names.aggs (c, k)

-- what `typed` answers has operands of the types that its operators take
abbrev pub IsTypedTyped : Type 0
IsTypedTyped = (names : Scope) (raw : RawExpr) (e : Expr) → typed names raw ≡ Ok e → is_typed e ≡ true

-- what `typed` answers has no columns but the scope's
abbrev pub IsTypedInScope : Type 0
IsTypedInScope = (names : Scope) (raw : RawExpr) (e : Expr) → typed names raw ≡ Ok e → EachColumn (IsInScope names) e

-- an expression over other columns has the value that it had, on rows whose values in these are those that its columns had
abbrev pub IsMovedSame : Type 0
IsMovedSame = (f : ℕ → ℕ) (e : Expr) (cols base : List ℕ) (row other : List Value)
    → EachColumn (λ c k. column_value cols (f c) row ≡ column_value base c other) e → value (moved f e) cols row ≡ value e base other

-- each column of an expression is in the list of its columns, and one that is passes each test that each column passes
abbrev pub AreColumnsAll : Type 0
AreColumnsAll = (e : Expr) → EachColumn (λ c k. has (columns e) c ≡ true) e × ((p : ℕ → Bool) → EachColumn (λ c k. p c ≡ true) e → (c : ℕ) → has (columns e) c ≡ true → p c ≡ true)

-- a reference with an alias names at most one of the columns in sight, where no two have one alias and one name
abbrev pub IsOneInSight : Type 0
IsOneInSight = (names : Scope) (r : RawRef) → AreDistinct names.entries → is_some r.alias ≡ true → count_by (is_named r) names.entries ≤ 1
