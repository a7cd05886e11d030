use Rattle.std.proofs.Common.{◌≡◌, map, take}
use Rattle.col_sets.specs.Sets.{set_of}
use Rattle.col_sets.proofs.key_orders.KeyOrders.set.Given as goal

abbrev pub invariant-loop-col : goal.invariant-loop-col
invariant-loop-col l = l.set ≡ set_of (map (λ k. k.0) (take l.col-index l.col-items))
