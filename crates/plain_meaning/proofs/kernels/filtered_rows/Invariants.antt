use Rattle.std.proofs.Common.{◌≡◌, filter, take}
use Rattle.scope_expr.specs.Value.{holds}
use Rattle.plain_meaning.proofs.kernels.filtered_rows.Given as goal

abbrev pub invariant-loop-row : goal.invariant-loop-row
invariant-loop-row l = l.kept.items ≡ filter (holds l.e l.cols) (take l.row-index l.rows)
