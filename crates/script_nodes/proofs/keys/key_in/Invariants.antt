use Rattle.std.proofs.Common.{◌≡◌, map, take}
use Rattle.script_nodes.specs.Steps.{column_at}
use Rattle.script_nodes.proofs.keys.key_in.Given as goal

abbrev pub invariant-loop-place : goal.invariant-loop-place
invariant-loop-place l = l.key.items ≡ map (column_at l.cols) (take l.place-index l.places)
