use Rattle.std.proofs.Common.{◌≡◌, ◌++◌, length, drop}
use Rattle.names_in_sight.specs.Sight.{sight_from}
use Rattle.names_in_sight.proofs.sight.sight_of.Given as goal

abbrev pub invariant-loop-input : goal.invariant-loop-input
invariant-loop-input l = l.entries ++ sight_from (length l.entries) (drop l.input-index l.inputs) ≡ sight_from 0 l.inputs
