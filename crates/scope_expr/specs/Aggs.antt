-- Which arguments aggregates take, and the type of their values.
use Rattle.std.specs.Prelude.{Bool, true}
use Rattle.scope_value.specs.declared.schema.ColType.{ColType}
use Rattle.scope_value.specs.declared.schema.ColType.TheVariants.{Long}
use Rattle.script_trees.specs.declared.agg.AggKind.{AggKind}
use Rattle.script_trees.specs.declared.agg.AggKind.TheVariants.{Count, CountIf, Sum, Min, Max}
use Rattle.scope_expr.specs.declared.expr.Expr.{Expr}
use Rattle.scope_expr.specs.Kinds.{kind_of, takes_number, takes_truth}

-- a sum takes numbers, a count of the rows where something is true takes truth values
abbrev pub takes_argument : AggKind → Expr → Bool
takes_argument Count arg = true
takes_argument CountIf arg = takes_truth arg
takes_argument Sum arg = takes_number arg
takes_argument Min arg = true
takes_argument Max arg = true

-- counts and sums are `long`, the least and the greatest value are of the argument's type
abbrev pub kind_of_agg : AggKind → Expr → ColType
kind_of_agg Count arg = Long
kind_of_agg CountIf arg = Long
kind_of_agg Sum arg = Long
kind_of_agg Min arg = kind_of arg
kind_of_agg Max arg = kind_of arg
