use Rattle.std.proofs.Common.{◌≡◌, take}
use Rattle.binding_causes.specs.Found.{any_of, in_joined}
use Rattle.binding_causes.proofs.calls.in_sources.Given as goal

abbrev pub invariant-loop-joined : goal.invariant-loop-joined
invariant-loop-joined g l = l.found ≡ any_of (in_joined (g.O.Tells.tells l.ops)) (take l.joined-index l.sources)
