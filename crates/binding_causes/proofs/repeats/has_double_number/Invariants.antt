use Rattle.std.proofs.Common.{◌≡◌, ◌==◌, drop}
use Rattle.binding_causes.specs.Columns.{repeats}
use Rattle.binding_causes.proofs.repeats.has_double_number.Given as goal

abbrev pub invariant-loop-at : goal.invariant-loop-at
invariant-loop-at l = repeats (λ m n. m == n) l.numbers ≡ repeats (λ m n. m == n) (drop l.at l.numbers)
