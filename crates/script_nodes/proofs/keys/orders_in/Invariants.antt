use Rattle.std.proofs.Common.{◌≡◌, map, take}
use Rattle.script_nodes.specs.Steps.{column_at}
use Rattle.script_nodes.proofs.keys.orders_in.Given as goal

abbrev pub invariant-loop-place : goal.invariant-loop-place
invariant-loop-place l = l.keys.items ≡ map (λ k. (column_at l.cols k.0, k.1)) (take l.place-index l.order)
