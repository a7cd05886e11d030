use Rattle.std.proofs.Common.{◌≡◌, map, take}
use Rattle.scope_expr.specs.declared.expr.Expr.TheVariants.{Col}
use Rattle.names_in_sight.proofs.seen.all_outputs.Given as goal

abbrev pub invariant-loop-entry : goal.invariant-loop-entry
invariant-loop-entry l = l.outputs ≡ map (λ e. (e.name, Col e.id e.kind)) (take l.entry-index l.entries)
