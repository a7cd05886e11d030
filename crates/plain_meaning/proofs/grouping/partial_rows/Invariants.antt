use Rattle.std.proofs.Common.{◌≡◌, take, map}
use Rattle.plain_meaning.specs.Steps.{partial_row}
use Rattle.plain_meaning.proofs.grouping.partial_rows.Given as goal

abbrev pub invariant-loop-row : goal.invariant-loop-row
invariant-loop-row l = l.made.items ≡ map (partial_row l.args l.cols) (take l.row-index l.rows)
