-- Sums that may be beyond 128 bits.
use Rattle.std.specs.Prelude.{ℤ, pos, ◌+ℤ◌, ◌*ℤ◌, ◌^◌}
use Rattle.plain_meaning.specs.declared.exact_sum.ExactSum.{ExactSum}

-- the number that the two parts of a sum stand for
abbrev pub sum_of : ExactSum → ℤ
sum_of sum = sum.low +ℤ sum.turns *ℤ pos (2 ^ 128)
