use Rattle.std.proofs.Common.{◌≡◌, map, take}
use Rattle.scope_expr.specs.Names.{bound}
use Rattle.names_in_sight.proofs.seen.listed_outputs.Given as goal

abbrev pub invariant-loop-item : goal.invariant-loop-item
invariant-loop-item l = l.outputs ≡ map (λ x. (x.name, bound l.names x.expr)) (take l.item-index l.items)
