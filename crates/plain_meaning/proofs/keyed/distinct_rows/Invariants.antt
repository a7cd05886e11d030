use Rattle.std.proofs.Common.{◌≡◌, take}
use Rattle.list_lemmas.specs.Distinct.{distinct}
use Rattle.plain_meaning.proofs.keyed.distinct_rows.Given as goal

abbrev pub invariant-loop-row : goal.invariant-loop-row
invariant-loop-row l = l.kept.items ≡ distinct (take l.row-index l.rows)
