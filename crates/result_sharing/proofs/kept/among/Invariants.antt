use Rattle.std.proofs.Common.{◌≡◌}
use Rattle.std.specs.Prelude.{filter}
use Rattle.std.specs.List.{range_with_len}
use Rattle.col_sets.specs.Sets.{has}
use Rattle.result_sharing.proofs.kept.among.Given as goal

abbrev pub invariant-loop-k : goal.invariant-loop-k
invariant-loop-k l = l.kept.items ≡ filter (has l.reached) (range_with_len 0 l.k)
