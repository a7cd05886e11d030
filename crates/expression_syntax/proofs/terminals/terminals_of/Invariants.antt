use Rattle.std.proofs.Common.{◌≡◌, ◌++◌, drop, map}
use Rattle.expression_syntax.specs.Lexemes.{lexeme_of}
use Rattle.expression_syntax.specs.Terminals.{lexemes, strings}
use Rattle.expression_syntax.proofs.terminals.terminals_of.Given as goal

-- the terminals so far and those of the tokens to come are all, and the strings of these are left
abbrev pub invariant-loop-token : goal.invariant-loop-token
invariant-loop-token l = record {
  so_far : map lexeme_of l.terminals.items ++ lexemes l.text (drop l.token-index l.tokens) ≡ lexemes l.text l.tokens;
  left : l.rest ≡ strings l.text (drop l.token-index l.tokens);
}
