use Rattle.std.proofs.Common.{[], ◌∷◌, map, arith, ap, ◌∙◌}
use Rattle.std.proofs.lemmas.List.{map-append}
use Rattle.expression_syntax.specs.Lexemes.{lexeme_of}
use Rattle.expression_syntax.proofs.OneTerminal.{one_more}
use Rattle.expression_syntax.proofs.terminals.terminals_of.Goals as goal

pub loop-token-preserved : goal.loop-token-preserved
loop-token-preserved c =
    let pushed = ap (map lexeme_of) c.in_ok-push.ensures.items ∙ map-append lexeme_of c.loop-token.terminals.items (c.terminal.result.0 ∷ []) in
    let k = one_more c.args.text.now c.args.tokens.now c.loop-token.token-index _ (map lexeme_of c.loop-token.terminals.items) (map lexeme_of c.push.new.self.items)
    c.loop-token.rest.now c.terminal.result.1.now (lexeme_of c.terminal.result.0) (omega arith) c.loop-token.invariant.so_far c.loop-token.invariant.left pushed c.terminal.ensures in
    record { so_far = k.all; left = k.rest }
