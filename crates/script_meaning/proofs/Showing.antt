-- The examples by computation.
use Rattle.std.proofs.Common.{zero, suc, refl, arith}
use denote.Hole.Carrier.{hidden}
use Rattle.scope_value.specs.Order.{value_cmp}
use Rattle.col_sets.specs.Sets.{columns_where}
use Rattle.scope_expr.specs.declared.expr.Expr.TheBlock.{shape-the_row-Expr-0, hidden-the_row-Expr-0}
use Rattle.script_meaning.specs.Examples.{self_join, Rules}
use Rattle.script_meaning.specs.Placed.{IsPlaced}
use Rattle.script_meaning.specs.Laws.{FitsColumns}

join_placed : IsPlaced self_join
unfolding shape-the_row-Expr-0 hidden-the_row-Expr-0 hidden
join_placed = (
  tt,
  (
    (
      omega arith,
      (omega arith, (omega arith, (omega arith, omega arith, tt)), tt),
      record {
        tests = (omega arith, tt);
        groups = tt;
        gives = (omega arith, (omega arith, tt));
        has = tt;
        orders = tt;
      },
    ),
    ((omega arith, tt), tt),
  ),
)

join_fits : FitsColumns self_join
join_fits zero = omega arith
join_fits (suc zero) = omega arith
join_fits (suc (suc zero)) = omega arith
join_fits (suc (suc (suc k))) = omega arith

pub rules_hold : Rules
unfolding shape-the_row-Expr-0 hidden-the_row-Expr-0 hidden columns_where value_cmp
rules_hold = record { there = join_placed; fits = join_fits; shared = refl; clauses = refl; unused = refl; declared = refl; left = refl; right = refl; full = refl }
