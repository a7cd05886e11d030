use Rattle.std.proofs.Common.{◌≡◌, map, take}
use Rattle.names_in_sight.specs.Inputs.{input_of, before_of}
use Rattle.names_in_sight.proofs.inputs.written_inputs.Given as goal

abbrev pub invariant-loop-joined : goal.invariant-loop-joined
invariant-loop-joined g l = l.inputs ≡ map (λ j. input_of (g.O.Tells.tells l.ops) (before_of l.statements l.headings) j.source) (take l.joined-index l.sources)
