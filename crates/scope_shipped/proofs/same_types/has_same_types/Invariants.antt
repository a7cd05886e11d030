use Rattle.std.proofs.Common.{◌≡◌, drop}
use Rattle.scope_shipped.specs.SameTypes.{same_types}
use Rattle.scope_shipped.proofs.same_types.has_same_types.Given as goal

abbrev pub invariant-loop-at : goal.invariant-loop-at
invariant-loop-at l = same_types (drop l.at l.a) (drop l.at l.b) ≡ same_types l.a l.b
