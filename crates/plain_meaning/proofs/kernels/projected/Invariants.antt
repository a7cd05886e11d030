use Rattle.std.proofs.Common.{◌≡◌, map, take}
use Rattle.scope_expr.specs.Value.{value}
use Rattle.plain_meaning.proofs.kernels.projected.Given as goal

abbrev pub invariant-loop-item : goal.invariant-loop-item
invariant-loop-item l = l.values.items ≡ map (λ e. value e l.cols l.row) (take l.item-index l.items)
