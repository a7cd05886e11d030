use Rattle.std.proofs.Common.{◌≡◌, ◌-◌, List, take, drop}
use Rattle.scope_value.specs.declared.value.Value.{Value}
use Rattle.user_ops.specs.Adding.{IsAdding}
use Rattle.scope_shipped.specs.MultiSetDifference.{copies, last_copies}
use Rattle.scope_shipped.specs.RowCounts.{count_in}
use Rattle.scope_shipped.proofs.multi_set_difference.push_difference.Given as goal

abbrev pub invariant-loop-row : goal.invariant-loop-row
invariant-loop-row l = record {
  left_over : (row : List Value) → count_in l.unmatched.counts row ≡ copies row l.right - copies row (take l.row-index l.left);
  adding : IsAdding l.initial.out.items l.out.items (last_copies l.left l.right (drop l.row-index l.left)) (last_copies l.left l.right l.left);
}
