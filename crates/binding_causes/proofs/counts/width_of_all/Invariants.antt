use Rattle.std.proofs.Common.{◌≡◌, length, take}
use Rattle.names_in_sight.specs.Inputs.{columns_of_all}
use Rattle.binding_causes.proofs.counts.width_of_all.Given as goal

abbrev pub invariant-loop-input : goal.invariant-loop-input
invariant-loop-input l = l.total ≡ length (columns_of_all (take l.input-index l.inputs))
