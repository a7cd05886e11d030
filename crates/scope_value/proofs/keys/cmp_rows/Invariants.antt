use Rattle.std.proofs.Common.{◌≡◌, drop}
use Rattle.scope_value.specs.Keys.{keys_cmp}
use Rattle.scope_value.proofs.keys.cmp_rows.Given as goal

abbrev pub invariant-loop-item : goal.invariant-loop-item
invariant-loop-item l = keys_cmp l.item-items l.keys.rest l.a l.b ≡ keys_cmp (drop l.item-index l.item-items) l.keys.rest l.a l.b
