-- What stands in the lines of a Dag's text: strings, lists of columns, orders, expressions and the like.
use Rattle.std.specs.Prelude.{◌==◌, ◌||◌, ℕ, if◌then◌else◌, true, false, List, [], ◌∷◌, ◌++◌, map, flat_map, Option, Some, None, codes, decimal}
use Rattle.std.specs.Fmt.{signed_decimal}
use Rattle.std.specs.List.{join_with_byte}
use Rattle.col_sets.specs.declared.dir.Dir.{Dir}
use Rattle.col_sets.specs.declared.dir.Dir.TheVariants.{Up, Down}
use Rattle.scope_value.specs.declared.value.Value.{Value}
use Rattle.scope_value.specs.declared.value.Value.TheVariants as value
use Rattle.scope_value.specs.declared.schema.ColType.{ColType}
use Rattle.scope_value.specs.declared.schema.ColType.TheVariants as kind
use Rattle.scope_value.specs.declared.schema.Column.{Column}
use Rattle.script_trees.specs.declared.op.PairOp.{PairOp}
use Rattle.script_trees.specs.declared.op.PairOp.TheVariants.{Or, And, Eq, Ne, Lt, Le, Gt, Ge, Add, Sub, Mul, Div, Rem}
use Rattle.script_trees.specs.declared.agg.AggKind.{AggKind}
use Rattle.script_trees.specs.declared.agg.AggKind.TheVariants.{Count, CountIf, Sum, Min, Max}
use Rattle.scope_expr.specs.declared.expr.Expr.{Expr, end_of-Expr, more_of-Expr}
use Rattle.scope_expr.specs.declared.expr.Expr.TheVariants.{Literal, Col, Neg', Not', Pair'}
use Rattle.logical_trees.specs.declared.agg.Agg.{Agg}

-- the texts with a byte between each two, and `-` where there are none
abbrev pub listed : ℕ → List (List ℕ) → List ℕ
listed between [] = codes "-"
listed between (x ∷ xs) = join_with_byte between (x ∷ xs)

-- ---- strings

-- a byte as it stands between quotes: `\` before a quote and before itself, and `\n`, `\r` and `\t`
abbrev pub escaped : ℕ → List ℕ
escaped b =
    if b == 34 || b == 92 then 92 ∷ b ∷ []
    else if b == 10 then codes "\\n"
    else if b == 13 then codes "\\r"
    else if b == 9 then codes "\\t"
    else b ∷ []

-- the bytes between quotes
abbrev pub quoted : List ℕ → List ℕ
quoted bytes = 34 ∷ flat_map escaped bytes ++ 34 ∷ []

abbrev pub args_text : List (List ℕ) → List ℕ
args_text args = listed 44 (map quoted args)

-- an operator's place, and its args
abbrev pub called_text : ℕ → List (List ℕ) → List ℕ
called_text op args = decimal op ++ codes " args " ++ args_text args

-- ---- columns

-- columns joined by dots
abbrev pub columns_text : List ℕ → List ℕ
columns_text cols = listed 46 (map decimal cols)

-- `+` where an order rises, `-` where it falls
abbrev pub sign_text : Dir → List ℕ
sign_text Up = codes "+"
sign_text Down = codes "-"

-- a column of an order
abbrev pub key_text : ℕ × Dir → List ℕ
key_text k = decimal k.0 ++ sign_text k.1

abbrev pub order_text : List (ℕ × Dir) → List ℕ
order_text order = listed 46 (map key_text order)

abbrev pub presort_text : Option (List (ℕ × Dir)) → List ℕ
presort_text None = codes "-"
presort_text (Some order) = order_text order

-- how a stream is stored: by the hash of columns, and in an order
abbrev pub stored_text : List ℕ → Option (List (ℕ × Dir)) → List ℕ
stored_text hash sorted = codes " stored hash " ++ columns_text hash ++ codes " sorted " ++ presort_text sorted

-- columns that are set equal
abbrev pub pair_text : ℕ × ℕ → List ℕ
pair_text p = decimal p.0 ++ codes "=" ++ decimal p.1

abbrev pub pairs_text : List (ℕ × ℕ) → List ℕ
pairs_text pairs = join_with_byte 44 (map pair_text pairs)

abbrev pub type_text : ColType → List ℕ
type_text kind.Int = codes "int"
type_text kind.Long = codes "long"
type_text kind.Text = codes "string"
type_text kind.Bool = codes "bool"

-- a column's name, bare, and its type
abbrev pub column_text : Column → List ℕ
column_text c = c.name ++ codes ":" ++ type_text c.kind

abbrev pub schema_text : List Column → List ℕ
schema_text schema = join_with_byte 44 (map column_text schema)

-- ---- expressions

abbrev pub value_text : Value → List ℕ
value_text value.Null = codes "NULL"
value_text (value.Bool true) = codes "TRUE"
value_text (value.Bool false) = codes "FALSE"
value_text (value.Int n) = signed_decimal n
value_text (value.Bytes bytes) = quoted bytes
value_text (value.Wide n) = signed_decimal n

abbrev pub operator_text : PairOp → List ℕ
operator_text Or = codes "||"
operator_text And = codes "&&"
operator_text Eq = codes "=="
operator_text Ne = codes "!="
operator_text Lt = codes "<"
operator_text Le = codes "<="
operator_text Gt = codes ">"
operator_text Ge = codes ">="
operator_text Add = codes "+"
operator_text Sub = codes "-"
operator_text Mul = codes "*"
operator_text Div = codes "/"
operator_text Rem = codes "%"

-- an operator between its operands
abbrev pub between_text : PairOp → List ℕ
between_text op = codes " " ++ operator_text op ++ codes " "

abbrev pub expression_text : Expr → List ℕ
expression_text (Literal v) = value_text v
expression_text (Col c k) = codes "#" ++ decimal c
expression_text (Neg' s (more_of-Expr a end_of-Expr)) = codes "-(" ++ expression_text a ++ codes ")"
expression_text (Not' s (more_of-Expr a end_of-Expr)) = codes "!(" ++ expression_text a ++ codes ")"
expression_text (Pair' op s (more_of-Expr a end_of-Expr) t (more_of-Expr b end_of-Expr)) = codes "(" ++ expression_text a ++ between_text op ++ expression_text b ++ codes ")"

abbrev pub items_text : List Expr → List ℕ
items_text items = join_with_byte 44 (map expression_text items)

-- ---- aggregates

abbrev pub aggregate_word : AggKind → List ℕ
aggregate_word Count = codes "COUNT"
aggregate_word CountIf = codes "COUNTIF"
aggregate_word Sum = codes "SUM"
aggregate_word Min = codes "MIN"
aggregate_word Max = codes "MAX"

-- without an argument it counts the rows
abbrev pub argument_text : Option Expr → List ℕ
argument_text None = codes "*"
argument_text (Some e) = expression_text e

-- an aggregate and the column that it gives
abbrev pub aggregate_text : Agg → List ℕ
aggregate_text a = aggregate_word a.kind ++ codes "(" ++ argument_text a.arg ++ codes ")=" ++ decimal a.id

abbrev pub aggregates_text : List Agg → List ℕ
aggregates_text aggs = listed 44 (map aggregate_text aggs)

-- the list of a GROUP BY, where there is one
abbrev pub written_text : Option (List ℕ) → List ℕ
written_text None = codes "none"
written_text (Some cols) = columns_text cols
