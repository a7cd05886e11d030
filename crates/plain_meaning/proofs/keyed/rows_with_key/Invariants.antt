use Rattle.std.proofs.Common.{◌≡◌, take}
use Rattle.logical_trees.specs.Rows.{with_key}
use Rattle.plain_meaning.proofs.keyed.rows_with_key.Given as goal

abbrev pub invariant-loop-row : goal.invariant-loop-row
invariant-loop-row l = l.kept.items ≡ with_key l.cols l.key l.k (take l.row-index l.rows)
