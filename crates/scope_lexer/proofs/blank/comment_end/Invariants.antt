use Rattle.std.proofs.Common.{◌≡◌, ◌+◌, length}
use Rattle.scope_lexer.specs.Begins.{comment_end}
use Rattle.scope_lexer.proofs.blank.comment_end.Given as goal

abbrev pub invariant-loop-rest : goal.invariant-loop-rest
invariant-loop-rest l = record {
  end : comment_end l.at l.rest ≡ comment_end 2 l.text;
  place : l.at + length l.rest ≡ length l.text + 2;
}

abbrev pub decreases-loop-rest : goal.decreases-loop-rest
decreases-loop-rest l = length l.rest
