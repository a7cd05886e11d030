-- Exact sums: a turn more or less.
use Rattle.std.proofs.Common.{◌≡◌, ◌^◌, ℤ, pos, ◌+ℤ◌, ◌-ℤ◌, arith}
use Rattle.std.proofs.lemmas.Int.{ints}
use Rattle.plain_meaning.specs.declared.exact_sum.ExactSum.{ExactSum}
use Rattle.plain_meaning.specs.Sums.{sum_of}

-- 2^128 more below, and one turn less
pub turned_down : (sum : ExactSum) (low turns n : ℤ) → low ≡ ((sum.low +ℤ n) +ℤ pos (2 ^ 128)) → turns ≡ (sum.turns -ℤ pos 1) → sum_of (record { low = low; turns = turns }) ≡ sum_of sum +ℤ n
turned_down sum low turns n l t = rw (l, t) (omega (arith, ints))

-- 2^128 less below, and one turn more
pub turned_up : (sum : ExactSum) (low turns n : ℤ) → low ≡ ((sum.low +ℤ n) -ℤ pos (2 ^ 128)) → turns ≡ (sum.turns +ℤ pos 1) → sum_of (record { low = low; turns = turns }) ≡ sum_of sum +ℤ n
turned_up sum low turns n l t = rw (l, t) (omega (arith, ints))
