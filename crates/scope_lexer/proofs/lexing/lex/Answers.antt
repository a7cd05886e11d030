use Rattle.std.proofs.Common.{arith, rules}
use Rattle.std.proofs.lemmas.List.{take_rest, length-drop}
use Rattle.scope_lexer.proofs.Cuts.{so_far_none, so_far_more}
use Rattle.scope_lexer.proofs.lexing.lex.Goals as goal

pub loop-at-init : goal.loop-at-init
loop-at-init c =
    let e = c.as_bytes-bytes.ensures.value in
    record {
      inside = search rules;
      done = so_far_none c.args.text.now _ _ (rw e at c.mark_len-at.ensures.mark) c.new-tokens.ensures.items;
    }

pub loop-at-preserved : goal.loop-at-preserved
loop-at-preserved c =
    let e = c.as_bytes-bytes.ensures.value in
    let bytes = c.as_bytes-bytes.result.now in
    let b = rw (take_rest bytes c.loop-at.at, e) at c.front.ensures.piece in
    let within = rw (take_rest bytes c.loop-at.at) at c.in-Some.ensures.within in
    record {
      inside = omega (arith, length-drop c.loop-at.at bytes, within.1);
      done = so_far_more c.args.text.now c.loop-at.at c.loop-at.tokens.items c.in-Some.piece _ c.loop-at.invariant.done (cc) (c.in_ok-push_piece.ensures);
    }
