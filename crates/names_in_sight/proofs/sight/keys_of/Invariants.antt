use Rattle.std.proofs.Common.{◌≡◌, map, take}
use Rattle.names_in_sight.specs.Sight.{key_of}
use Rattle.names_in_sight.proofs.sight.keys_of.Given as goal

abbrev pub invariant-loop-key : goal.invariant-loop-key
invariant-loop-key l = l.places ≡ map (key_of l.names) (take l.key-index l.keys)
