-- The examples by computation.
use Rattle.std.proofs.Common.{refl}
use denote.Hole.Carrier.{hidden}
use Rattle.scope_expr.specs.declared.expr.Expr.TheBlock.{shape-the_row-Expr-0, hidden-the_row-Expr-0}
use Rattle.normal_meaning.specs.Examples.{Rules}

pub rules_hold : Rules
unfolding shape-the_row-Expr-0 hidden-the_row-Expr-0 hidden
rules_hold = record { sides = refl; items = refl; keyed = refl; keyless = refl; top = refl; joined = refl; later = refl }
