use Rattle.std.proofs.Common.{◌≡◌, take}
use Rattle.names_in_sight.proofs.copies.copied_columns.Given as goal

abbrev pub invariant-loop-column : goal.invariant-loop-column
invariant-loop-column l = l.copy ≡ take l.column-index l.columns
