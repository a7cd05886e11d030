use Rattle.std.proofs.Common.{◌*◌, ◌+◌, ◌-◌, ◌<◌, arith, get_or, rules, sym}
use Rattle.scope_lexer.specs.Begins.{max_number}
use Rattle.scope_lexer.proofs.Digits.{one_more, too_large}
use Rattle.scope_lexer.proofs.word.value_of.Goals as goal

pub returns-then-value-digit : goal.returns-then-value-digit
returns-then-value-digit c =
    let most : max_number < c.loop-b.value * 10 + (get_or c.args.digits.now c.loop-b.b-index 0 - 48) = omega arith in
    sym (too_large c.args.digits.now c.loop-b.b-index c.loop-b.value c.requires (search rules) c.loop-b.invariant.value most)

pub loop-b-preserved : goal.loop-b-preserved
loop-b-preserved c =
    record {
      value = one_more c.args.digits.now c.loop-b.b-index c.loop-b.value c.requires (search rules) c.loop-b.invariant.value;
      small = omega arith;
    }
