use Rattle.std.proofs.Common.{◌≡◌, map, take}
use Rattle.names_in_sight.specs.Sight.{place_of}
use Rattle.names_in_sight.proofs.sight.places_of.Given as goal

abbrev pub invariant-loop-r : goal.invariant-loop-r
invariant-loop-r l = l.places ≡ map (place_of l.names) (take l.r-index l.refs)
