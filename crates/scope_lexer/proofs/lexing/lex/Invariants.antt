use Rattle.std.proofs.Common.{◌≤◌, ◌-◌, length}
use Rattle.scope_lexer.proofs.Cuts.{SoFar}
use Rattle.scope_lexer.proofs.lexing.lex.Given as goal

abbrev pub invariant-loop-at : goal.invariant-loop-at
invariant-loop-at l = record {
  inside : l.at ≤ length l.bytes;
  done : SoFar l.text l.at l.tokens.items;
}

abbrev pub decreases-loop-at : goal.decreases-loop-at
decreases-loop-at l = length l.bytes - l.at
