use Rattle.std.proofs.Common.{◌≡◌, ◌+◌, take}
use Rattle.col_sets.specs.Keys.{IsOrderKey}
use Rattle.col_sets.proofs.key_orders.KeyOrders.from_slice.Given as goal

abbrev pub invariant-loop-col : goal.invariant-loop-col
invariant-loop-col l = (l.order ≡ take (l.col-index + 1) l.keys) × IsOrderKey l.order
