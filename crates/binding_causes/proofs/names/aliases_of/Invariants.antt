use Rattle.std.proofs.Common.{◌≡◌, take}
use Rattle.std.specs.List.{flat_map}
use Rattle.binding_causes.specs.Names.{aliases}
use Rattle.binding_causes.proofs.names.aliases_of.Given as goal

abbrev pub invariant-loop-joined : goal.invariant-loop-joined
invariant-loop-joined l = l.names ≡ flat_map (λ j. aliases j.source) (take l.joined-index l.sources)
