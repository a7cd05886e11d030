use Rattle.std.proofs.Common.{◌≡◌, map, take}
use Rattle.names_in_sight.specs.Views.{pair_of}
use Rattle.names_in_sight.proofs.equalities.pairs_of.Given as goal

abbrev pub invariant-loop-pair : goal.invariant-loop-pair
invariant-loop-pair l = l.pairs ≡ map (pair_of l.sides) (take l.pair-index l.on)
