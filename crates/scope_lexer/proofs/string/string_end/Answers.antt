use Rattle.std.proofs.Common.{◌≡◌, ◌+◌, get_or, true, arith, rules, ◌∙◌}
use Rattle.std.proofs.lemmas.Grind.{common_steps}
use Rattle.scope_lexer.specs.Bytes.{is_escape}
use Rattle.scope_lexer.proofs.Strings.{escape_there, string_plain, string_escape}
use Rattle.scope_lexer.proofs.string.string_end.Goals as goal

pub loop-at-preserved-in-92 : goal.loop-at-preserved-in-92
loop-at-preserved-in-92 c =
    let text = c.args.text.now in
    let at = c.loop-at.at in
    let good : is_escape (get_or text (at + 1) 0) ≡ true = grind (arith, common_steps) in
    record {
      end = string_escape text at (escape_there text (at + 1) good) (search rules) good ∙ c.loop-at.invariant.end;
      inside = omega (arith, escape_there text (at + 1) good);
    }

pub loop-at-preserved : goal.loop-at-preserved
loop-at-preserved c =
    let text = c.args.text.now in
    let at = c.loop-at.at in
    record {
      end = string_plain text at (search rules) (search rules) (search rules) (search rules) (search rules) ∙ c.loop-at.invariant.end;
      inside = omega arith;
    }
