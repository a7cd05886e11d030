use Rattle.std.proofs.Common.{◌≡◌, map, take}
use Rattle.std.specs.List.{flat_map}
use Rattle.names_in_sight.specs.Inputs.{input_at}
use Rattle.binding_causes.specs.Names.{origin_inputs}
use Rattle.binding_causes.proofs.inputs.of_each_source.Given as goal

abbrev pub invariant-loop-joined : goal.invariant-loop-joined
invariant-loop-joined l = l.numbers ≡ map (input_at l.earlier) (flat_map (λ j. origin_inputs j.source.origin) (take l.joined-index l.sources))
