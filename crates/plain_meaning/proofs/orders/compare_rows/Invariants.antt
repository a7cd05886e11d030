use Rattle.std.proofs.Common.{◌≡◌, true, drop}
use Rattle.scope_value.specs.Keys.{keys_cmp}
use Rattle.structural_props.specs.Rows.{items}
use Rattle.plain_meaning.proofs.orders.compare_rows.Given as goal

abbrev pub invariant-loop-c : goal.invariant-loop-c
invariant-loop-c l = keys_cmp (items l.cols l.order) true l.a l.b ≡ keys_cmp (items l.cols (drop l.c-index l.order)) true l.a l.b
