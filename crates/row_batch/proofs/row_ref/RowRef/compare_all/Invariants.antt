use Rattle.std.proofs.Common.{◌≡◌, drop}
use Rattle.scope_value.specs.Order.{row_cmp}
use Rattle.row_batch.proofs.row_ref.RowRef.compare_all.Given as goal

abbrev pub invariant-loop-place : goal.invariant-loop-place
invariant-loop-place l = row_cmp l.self l.other ≡ row_cmp (drop l.place l.self) (drop l.place l.other)
