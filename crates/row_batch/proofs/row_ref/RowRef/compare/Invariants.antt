use Rattle.std.proofs.Common.{◌≡◌, drop}
use Rattle.scope_value.specs.Keys.{keys_cmp}
use Rattle.row_batch.proofs.row_ref.RowRef.compare.Given as goal

abbrev pub invariant-loop-item : goal.invariant-loop-item
invariant-loop-item l = keys_cmp l.item-items l.keys.rest l.self l.other ≡ keys_cmp (drop l.item-index l.item-items) l.keys.rest l.self l.other
