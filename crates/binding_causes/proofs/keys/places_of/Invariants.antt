use Rattle.std.proofs.Common.{◌≡◌, map, take}
use Rattle.std.specs.List.{flat_map}
use Rattle.binding_causes.specs.Columns.{one_place}
use Rattle.binding_causes.proofs.keys.places_of.Given as goal

abbrev pub invariant-loop-key : goal.invariant-loop-key
invariant-loop-key g l = l.places.items ≡ flat_map (one_place l.names) (map g.T.NamesColumn.named_column (take l.key-index l.keys))
