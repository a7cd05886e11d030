use Rattle.std.proofs.Common.{◌≡◌, ◌++◌, length, drop}
use Rattle.names_in_sight.specs.Sight.{seen_from}
use Rattle.names_in_sight.proofs.sight.see.Given as goal

abbrev pub invariant-loop-column : goal.invariant-loop-column
invariant-loop-column l = l.entries ++ seen_from l.alias (length l.entries) (drop l.column-index l.columns) ≡ l.initial.entries ++ seen_from l.alias (length l.initial.entries) l.columns
