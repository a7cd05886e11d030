-- No terminal so far ends a statement.
use Rattle.scope_syntax.proofs.Cuts.{NoEnd}
use Rattle.scope_syntax.proofs.pieces.cut.Given as goal

abbrev pub invariant-loop-at : goal.invariant-loop-at
invariant-loop-at l = NoEnd l.at l.terminals
