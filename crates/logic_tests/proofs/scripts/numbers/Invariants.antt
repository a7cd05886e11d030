use Rattle.std.proofs.Common.{◌≡◌, length}
use Rattle.logic_tests.proofs.scripts.numbers.Given as goal

abbrev pub invariant-loop : goal.invariant-loop
invariant-loop l = length l.schema ≡ l.counter
