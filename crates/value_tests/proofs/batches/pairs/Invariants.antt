use Rattle.std.proofs.Common.{◌≡◌}
use Rattle.value_tests.proofs.batches.pairs.Given as goal

abbrev pub invariant-loop-key : goal.invariant-loop-key
invariant-loop-key l = l.batch.width ≡ 2
