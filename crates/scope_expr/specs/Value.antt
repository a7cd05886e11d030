-- What an expression is worth on a row.
use Rattle.std.specs.Prelude.{ℕ, ℤ, pos, neg_ℤ, ◌+ℤ◌, ◌-ℤ◌, ◌*ℤ◌, int_le, int_lt, int_div, int_rem, ◌^◌, Bool, false, not, ◌&&◌, ◌||◌, if◌then◌else◌, List, Option, Some, None}
use Rattle.std.specs.Ordering.{is_eq, is_ne, is_lt, is_le, is_gt, is_ge, int_eq}
use Rattle.scope_value.specs.declared.value.Value.{Value}
use Rattle.scope_value.specs.declared.value.Value.TheVariants.{Null, Bool as Truth, Int}
use Rattle.scope_value.specs.Order.{value_cmp}
use Rattle.scope_value.specs.Keys.{column}
use Rattle.col_sets.specs.Sets.{rank}
use Rattle.script_trees.specs.declared.op.PairOp.{PairOp}
use Rattle.script_trees.specs.declared.op.PairOp.TheVariants.{Or, And, Eq, Ne, Lt, Le, Gt, Ge, Add, Sub, Mul, Div, Rem}
use Rattle.scope_expr.specs.declared.expr.Expr.{Expr, end_of-Expr, more_of-Expr}
use Rattle.scope_expr.specs.declared.expr.Expr.TheVariants.{Literal, Col, Neg', Not', Pair'}

-- the number has 64 bits
abbrev pub is_long : ℤ → Bool
is_long n = int_le (neg_ℤ (pos (2 ^ 63))) n && int_lt n (pos (2 ^ 63))

-- the number, where it has 64 bits
abbrev pub in_range : ℤ → Option ℤ
in_range n = if is_long n then Some n else None

-- the number of a division by another number than zero
abbrev pub divided : (ℤ → ℤ → ℤ) → ℤ → ℤ → Option ℤ
divided by a b = if int_eq b (pos 0) then None else in_range (by a b)

-- exact arithmetic, where its number has 64 bits; division cuts toward zero, and a remainder has the dividend's sign
abbrev pub calculated : PairOp → ℤ → ℤ → Option ℤ
calculated Add a b = in_range (a +ℤ b)
calculated Sub a b = in_range (a -ℤ b)
calculated Mul a b = in_range (a *ℤ b)
calculated Div a b = divided int_div a b
calculated Rem a b = divided int_rem a b
-- the other operators calculate nothing
calculated op a b = None

-- the number as a value, null where there is none
abbrev pub or_null : Option ℤ → Value
or_null None = Null
or_null (Some n) = Int n

-- arithmetic on values: null where an operand is no number
abbrev pub computed : PairOp → Value → Value → Value
computed op (Int a) (Int b) = or_null (calculated op a b)
computed op a b = Null

-- the opposite of a number, null of another value
abbrev pub negated : Value → Value
negated (Int n) = or_null (in_range (neg_ℤ n))
negated v = Null

-- a truth value that is true: null counts as false
abbrev pub is_true : Value → Bool
is_true (Truth b) = b
is_true v = false

-- what an operator gives of two values; comparisons are by the one order of values
abbrev pub combined : PairOp → Value → Value → Value
combined Or a b = Truth (is_true a || is_true b)
combined And a b = Truth (is_true a && is_true b)
combined Eq a b = Truth (is_eq (value_cmp a b))
combined Ne a b = Truth (is_ne (value_cmp a b))
combined Lt a b = Truth (is_lt (value_cmp a b))
combined Le a b = Truth (is_le (value_cmp a b))
combined Gt a b = Truth (is_gt (value_cmp a b))
combined Ge a b = Truth (is_ge (value_cmp a b))
combined op a b = computed op a b

-- the value of a column on a row over the columns, null where the row ends before it
abbrev pub column_value : List ℕ → ℕ → List Value → Value
column_value cols c row = column (rank cols c) row

-- the value of an expression on a row over the columns
abbrev pub value : Expr → List ℕ → List Value → Value
value (Literal v) cols row = v
value (Col c k) cols row = column_value cols c row
value (Neg' s (more_of-Expr a end_of-Expr)) cols row = negated (value a cols row)
value (Not' s (more_of-Expr a end_of-Expr)) cols row = Truth (not (is_true (value a cols row)))
value (Pair' op s (more_of-Expr a end_of-Expr) t (more_of-Expr b end_of-Expr)) cols row = combined op (value a cols row) (value b cols row)

-- a predicate holds of a row where its value is true
abbrev pub holds : Expr → List ℕ → List Value → Bool
holds e cols row = is_true (value e cols row)
