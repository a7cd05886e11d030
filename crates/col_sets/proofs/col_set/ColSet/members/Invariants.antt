use Rattle.std.proofs.Common.{◌≡◌}
use Rattle.std.specs.List.{filter, range_with_len}
use Rattle.col_sets.specs.Sets.{has}
use Rattle.col_sets.proofs.col_set.ColSet.members.Given as goal

abbrev pub invariant-loop-c : goal.invariant-loop-c
invariant-loop-c l = l.columns.items ≡ filter (has l.self) (range_with_len 0 l.c)
