use Rattle.std.proofs.Common.{◌≡◌, take, map}
use Rattle.logical_trees.specs.Rows.{argument}
use Rattle.plain_meaning.proofs.aggregate.arguments.Given as goal

abbrev pub invariant-loop-row : goal.invariant-loop-row
invariant-loop-row l = l.values.items ≡ map (argument l.arg l.cols) (take l.row-index l.rows)
