-- The type of an expression, and which expressions have one.
use Rattle.std.specs.Prelude.{ℕ, Bool, true, false, ◌&&◌, ◌||◌}
use Rattle.scope_value.specs.declared.value.Value.{Value}
use Rattle.scope_value.specs.declared.value.Value.TheVariants as value
use Rattle.scope_value.specs.declared.schema.ColType.{ColType}
use Rattle.scope_value.specs.declared.schema.ColType.TheVariants.{Int, Long, Text, Bool as Truth}
use Rattle.script_trees.specs.declared.op.PairOp.{PairOp}
use Rattle.script_trees.specs.declared.op.PairOp.TheVariants.{Or, And, Eq, Ne, Lt, Le, Gt, Ge}
use Rattle.scope_expr.specs.declared.expr.Expr.{Expr, end_of-Expr, more_of-Expr}
use Rattle.scope_expr.specs.declared.expr.Expr.TheVariants.{Literal, Col, Neg', Not', Pair'}
use Rattle.scope_expr.specs.Value.{is_long}

-- the type of a literal; null alone is a string, and no literal is a partial sum
abbrev pub literal_kind : Value → ColType
literal_kind value.Null = Text
literal_kind (value.Bool b) = Truth
literal_kind (value.Int n) = Long
literal_kind (value.Bytes c) = Text
literal_kind (value.Wide n) = Long

-- a comparison or a link of truth values gives a truth value, arithmetic a long
abbrev pub op_kind : PairOp → ColType
op_kind Or = Truth
op_kind And = Truth
op_kind Eq = Truth
op_kind Ne = Truth
op_kind Lt = Truth
op_kind Le = Truth
op_kind Gt = Truth
op_kind Ge = Truth
op_kind op = Long

-- the type of an expression
abbrev pub kind_of : Expr → ColType
kind_of (Literal v) = literal_kind v
kind_of (Col c k) = k
kind_of (Neg' s a) = Long
kind_of (Not' s a) = Truth
kind_of (Pair' op s a t b) = op_kind op

-- the numbers are int and long
abbrev pub is_number : ColType → Bool
is_number Int = true
is_number Long = true
is_number Text = false
is_number Truth = false

-- the type of strings
abbrev pub is_text : ColType → Bool
is_text Text = true
is_text k = false

-- the type of truth values
abbrev pub is_truth : ColType → Bool
is_truth Truth = true
is_truth k = false

-- two numbers, two strings or two truth values
abbrev pub are_alike : ColType → ColType → Bool
are_alike j k = (is_number j && is_number k) || ((is_text j && is_text k) || (is_truth j && is_truth k))

-- the expression is NULL, which goes with every type
abbrev pub is_null : Expr → Bool
is_null (Literal value.Null) = true
is_null e = false

-- an operand of arithmetic
abbrev pub takes_number : Expr → Bool
takes_number e = is_null e || is_number (kind_of e)

-- an operand of `&&`, `||` and `!`, and a predicate
abbrev pub takes_truth : Expr → Bool
takes_truth e = is_null e || is_truth (kind_of e)

-- the two sides of a comparison
abbrev pub are_comparable : Expr → Expr → Bool
are_comparable a b = is_null a || (is_null b || are_alike (kind_of a) (kind_of b))

-- the operands are of the types that the operator takes
abbrev pub are_operands : PairOp → Expr → Expr → Bool
are_operands Or a b = takes_truth a && takes_truth b
are_operands And a b = takes_truth a && takes_truth b
are_operands Eq a b = are_comparable a b
are_operands Ne a b = are_comparable a b
are_operands Lt a b = are_comparable a b
are_operands Le a b = are_comparable a b
are_operands Gt a b = are_comparable a b
are_operands Ge a b = are_comparable a b
are_operands op a b = takes_number a && takes_number b

-- a literal is null, a truth value, a number of 64 bits or a string
abbrev pub is_literal : Value → Bool
is_literal (value.Int n) = is_long n
is_literal (value.Wide n) = false
is_literal v = true

-- each operator of the expression has operands of the types that it takes
abbrev pub is_typed : Expr → Bool
is_typed (Literal v) = is_literal v
is_typed (Col c k) = true
is_typed (Neg' s (more_of-Expr a end_of-Expr)) = is_typed a && takes_number a
is_typed (Not' s (more_of-Expr a end_of-Expr)) = is_typed a && takes_truth a
is_typed (Pair' op s (more_of-Expr a end_of-Expr) t (more_of-Expr b end_of-Expr)) = is_typed a && (is_typed b && are_operands op a b)

-- the fact holds of each column of the expression and its type
abbrev pub EachColumn : (ℕ → ColType → Type 0) → Expr → Type 0
EachColumn P (Literal v) = Unit {0}
EachColumn P (Col c k) = P c k
EachColumn P (Neg' s (more_of-Expr a end_of-Expr)) = EachColumn P a
EachColumn P (Not' s (more_of-Expr a end_of-Expr)) = EachColumn P a
EachColumn P (Pair' op s (more_of-Expr a end_of-Expr) t (more_of-Expr b end_of-Expr)) = EachColumn P a × EachColumn P b
