-- The value of a typed expression fits its type.
use Rattle.std.proofs.Common.{◌≡◌, refl, ℕ, ℤ, Bool, true, false, List, arith, if◌then◌else◌, Option, Some, None}
use Rattle.std.specs.Prelude.{FitsSigned, pos, neg_ℤ, ◌+ℤ◌, ◌-ℤ◌, ◌*ℤ◌, int_div, int_rem}
use Rattle.std.specs.Int.{w64}
use Rattle.std.specs.Ordering.{int_eq}
use Rattle.std.proofs.lemmas.Int.{ints}
use Rattle.scope_value.specs.declared.value.Value.{Value}
use Rattle.scope_value.specs.declared.value.Value.TheVariants.{Int, Wide}
use Rattle.scope_value.specs.declared.schema.ColType.TheVariants.{Long}
use Rattle.scope_value.specs.Fits.{Fits}
use Rattle.script_trees.specs.declared.op.PairOp.{PairOp}
use Rattle.script_trees.specs.declared.op.PairOp.TheVariants.{Add, Sub, Mul, Div, Rem}
use Rattle.scope_expr.specs.declared.expr.Expr.{Expr, end_of-Expr, more_of-Expr}
use Rattle.scope_expr.specs.declared.expr.Expr.TheVariants.{Literal, Col, Neg', Not', Pair'}
use Rattle.scope_expr.specs.Value.{is_long, in_range, divided, calculated, or_null, computed, negated, combined, value, column_value}
use Rattle.scope_expr.specs.Kinds.{literal_kind, op_kind, kind_of, is_literal, is_typed, EachColumn}

fits_long : (n : ℤ) → is_long n ≡ true → FitsSigned w64 n
fits_long n h = grind (arith, ints)

-- a number that there is is a `long`
abbrev FitsNumber : Option ℤ → Type 0
FitsNumber n = Fits Long (or_null n)

fits_range : (n : ℤ) → FitsNumber (in_range n)
fits_range n = go (is_long n) refl
  where
    go : (b : Bool) → is_long n ≡ b → FitsNumber (if b then Some n else None)
    go true h = fits_long n h
    go false h = tt

fits_divided : (by : ℤ → ℤ → ℤ) (a b : ℤ) → FitsNumber (divided by a b)
fits_divided by a b = go (int_eq b (pos 0))
  where
    go : (t : Bool) → FitsNumber (if t then None else in_range (by a b))
    go true = tt
    go false = fits_range (by a b)

fits_calculated : (op : PairOp) (a b : ℤ) → FitsNumber (calculated op a b)
fits_calculated Add a b = fits_range (a +ℤ b)
fits_calculated Sub a b = fits_range (a -ℤ b)
fits_calculated Mul a b = fits_range (a *ℤ b)
fits_calculated Div a b = fits_divided int_div a b
fits_calculated Rem a b = fits_divided int_rem a b
fits_calculated op a b = tt

fits_computed : (op : PairOp) (a b : Value) → Fits Long (computed op a b)
fits_computed op (Int a) (Int b) = fits_calculated op a b
fits_computed op a b = tt

fits_negated : (a : Value) → Fits Long (negated a)
fits_negated (Int n) = fits_range (neg_ℤ n)
fits_negated a = tt

fits_combined : (op : PairOp) (a b : Value) → Fits (op_kind op) (combined op a b)
fits_combined Add a b = fits_computed Add a b
fits_combined Sub a b = fits_computed Sub a b
fits_combined Mul a b = fits_computed Mul a b
fits_combined Div a b = fits_computed Div a b
fits_combined Rem a b = fits_computed Rem a b
fits_combined op a b = tt

fits_literal : (v : Value) → is_literal v ≡ true → Fits (literal_kind v) v
fits_literal (Int n) h = fits_long n h
fits_literal (Wide n) h = absurd (cc)
fits_literal v h = tt

pub fits_value : (e : Expr) (cols : List ℕ) (row : List Value) → is_typed e ≡ true → EachColumn (λ c k. Fits k (column_value cols c row)) e → Fits (kind_of e) (value e cols row)
fits_value (Literal v) cols row typed columns = fits_literal v typed
fits_value (Col c k) cols row typed columns = columns
fits_value (Neg' s (more_of-Expr a end_of-Expr)) cols row typed columns = fits_negated (value a cols row)
fits_value (Not' s (more_of-Expr a end_of-Expr)) cols row typed columns = tt
fits_value (Pair' op s (more_of-Expr a end_of-Expr) t (more_of-Expr b end_of-Expr)) cols row typed columns = fits_combined op (value a cols row) (value b cols row)
