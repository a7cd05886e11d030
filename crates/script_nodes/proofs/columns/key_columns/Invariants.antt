use Rattle.std.proofs.Common.{◌≡◌, map}
use Rattle.script_meaning.specs.Meaning.{key_places}
use Rattle.script_nodes.specs.Steps.{column_at}
use Rattle.script_nodes.proofs.columns.key_columns.Given as goal

abbrev pub invariant-loop-place : goal.invariant-loop-place
invariant-loop-place l = l.keys.items ≡ map (column_at l.cols) (key_places l.place l.written)
