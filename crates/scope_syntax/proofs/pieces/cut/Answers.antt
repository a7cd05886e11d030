use Rattle.std.proofs.Common.{arith, sym, ◌∙◌}
use Rattle.scope_syntax.proofs.Cuts.{cut_here, cut_none, no_end_more}
use Rattle.scope_syntax.proofs.pieces.cut.Goals as goal

pub returns-then-is_end-clause-pieces : goal.returns-then-is_end-clause-pieces
returns-then-is_end-clause-pieces c = cut_here c.args.terminals.now c.loop-at.at _ c.loop-at.invariant (omega arith) (sym c.is_end.ensures ∙ c.if-is_end.true)

pub loop-at-preserved : goal.loop-at-preserved
loop-at-preserved c = no_end_more c.args.terminals.now c.loop-at.at _ c.loop-at.invariant (omega arith) (sym c.is_end.ensures ∙ c.if-is_end.false)

pub returns-clause-pieces : goal.returns-clause-pieces
returns-clause-pieces c = cut_none c.args.terminals.now c.loop-at.at c.loop-at.invariant (omega arith)
