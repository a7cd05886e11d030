use Rattle.std.proofs.Common.{ℤ, pos, ◌+ℤ◌, ◌-ℤ◌, arith}
use Rattle.std.specs.Int.{w128, cast_signed, cast_unsigned}
use Rattle.std.proofs.lemmas.Int.{ints}
use Rattle.plain_meaning.proofs.SumLemmas.{turned_down, turned_up}
use Rattle.plain_meaning.proofs.exact_sum.ExactSum.plus.Goals as goal

-- a number as the code holds it
abbrev kept : ℤ → ℤ
kept z = cast_signed w128 (cast_unsigned w128 z)

pub returns-in-None-clause-value : goal.returns-in-None-clause-value
returns-in-None-clause-value c = turned_down c.args.self (kept c.sum_from_below.result) (kept (kept c.args.self.turns -ℤ pos 1)) c.args.n (omega (arith, ints)) (omega (arith, ints))

pub returns-in-None-2-clause-value : goal.returns-in-None-2-clause-value
returns-in-None-2-clause-value c = turned_up c.args.self (kept c.sum_from_above.result) (kept (kept c.args.self.turns +ℤ pos 1)) c.args.n (omega (arith, ints)) (omega (arith, ints))
