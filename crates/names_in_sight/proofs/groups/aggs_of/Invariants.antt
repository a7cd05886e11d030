use Rattle.std.proofs.Common.{◌≡◌, map, option_map, take}
use Rattle.scope_expr.specs.Names.{bound}
use Rattle.names_in_sight.proofs.groups.aggs_of.Given as goal

abbrev pub invariant-loop-agg : goal.invariant-loop-agg
invariant-loop-agg l = l.all ≡ map (λ a. (a.kind, option_map (bound l.names) a.arg)) (take l.agg-index l.aggs)
