use Rattle.std.proofs.Common.{◌≡◌, take}
use Rattle.col_sets.proofs.key_orders.KeyOrders.keys.Given as goal

abbrev pub invariant-loop-col : goal.invariant-loop-col
invariant-loop-col l = l.keys.items ≡ take l.col-index l.col-items
