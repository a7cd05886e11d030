use Rattle.std.proofs.Common.{◌≡◌, map, take}
use Rattle.logical_trees.specs.Rows.{projected}
use Rattle.plain_meaning.proofs.kernels.projected_rows.Given as goal

abbrev pub invariant-loop-row : goal.invariant-loop-row
invariant-loop-row l = l.made.items ≡ map (projected l.items l.cols) (take l.row-index l.rows)
