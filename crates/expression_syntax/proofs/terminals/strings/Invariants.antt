use Rattle.std.proofs.Common.{◌≡◌, ◌++◌, drop}
use Rattle.expression_syntax.specs.Terminals.{strings}
use Rattle.expression_syntax.proofs.terminals.strings.Given as goal

-- the strings so far and those among the tokens to come are all
abbrev pub invariant-loop-token : goal.invariant-loop-token
invariant-loop-token l = l.strings.items ++ strings l.text (drop l.token-index l.tokens) ≡ strings l.text l.tokens
