use Rattle.std.proofs.Common.{◌≡◌, take}
use Rattle.std.specs.List.{flat_map}
use Rattle.names_in_sight.specs.Sight.{named_by}
use Rattle.names_in_sight.proofs.groups.all_named.Given as goal

abbrev pub invariant-loop-r : goal.invariant-loop-r
invariant-loop-r l = l.written ≡ flat_map (named_by l.names) (take l.r-index l.refs)
