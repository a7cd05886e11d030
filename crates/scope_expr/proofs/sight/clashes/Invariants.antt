use Rattle.std.proofs.Common.{◌≡◌, drop}
use Rattle.std.specs.List.{list_any}
use Rattle.scope_expr.specs.Sight.{clash}
use Rattle.scope_expr.proofs.sight.clashes.Given as goal

abbrev pub invariant-loop-e : goal.invariant-loop-e
invariant-loop-e l = list_any (λ e. clash e l.entry) l.entries ≡ list_any (λ e. clash e l.entry) (drop l.e-index l.entries)
