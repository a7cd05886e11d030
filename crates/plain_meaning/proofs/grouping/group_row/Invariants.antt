use Rattle.std.proofs.Common.{◌≡◌, take, map}
use Rattle.plain_meaning.specs.Steps.{value_in, value_of}
use Rattle.plain_meaning.proofs.grouping.group_row.Given as goal

abbrev pub invariant-loop-c : goal.invariant-loop-c
invariant-loop-c l = l.row ≡ map (value_in l.args (λ a. value_of l.step l.cols a l.rows.items) l.k) (take l.c-index l.c-items)
