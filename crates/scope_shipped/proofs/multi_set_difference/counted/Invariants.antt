use Rattle.std.proofs.Common.{◌≡◌, List, take}
use Rattle.scope_value.specs.declared.value.Value.{Value}
use Rattle.scope_shipped.specs.MultiSetDifference.{copies}
use Rattle.scope_shipped.specs.RowCounts.{count_in}
use Rattle.scope_shipped.proofs.multi_set_difference.counted.Given as goal

abbrev pub invariant-loop-row : goal.invariant-loop-row
invariant-loop-row l = (row : List Value) → count_in l.counts.counts row ≡ copies row (take l.row-index l.rows)
