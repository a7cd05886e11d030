use Rattle.std.proofs.Common.{◌≡◌, take, map}
use Rattle.structural_props.specs.Rows.{value_at}
use Rattle.plain_meaning.proofs.aggregate.values_in.Given as goal

abbrev pub invariant-loop-row : goal.invariant-loop-row
invariant-loop-row l = l.values.items ≡ map (λ r. value_at l.cols r l.c) (take l.row-index l.rows)
