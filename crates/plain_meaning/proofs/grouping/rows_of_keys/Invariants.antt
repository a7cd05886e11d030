use Rattle.std.proofs.Common.{◌≡◌, take}
use Rattle.logical_trees.specs.Rows.{rows_of_keys}
use Rattle.plain_meaning.specs.Steps.{value_of}
use Rattle.plain_meaning.proofs.grouping.rows_of_keys.Given as goal

abbrev pub invariant-loop-k : goal.invariant-loop-k
invariant-loop-k l = l.made.items ≡ rows_of_keys l.args l.cols (value_of l.step l.cols) (take l.k-index l.keys) l.rows
