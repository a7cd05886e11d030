use Rattle.std.proofs.Common.{arith}
use Rattle.row_batch.proofs.RowLemmas.{took_more}
use Rattle.row_batch.proofs.batch.push_all.Goals as goal

pub loop-place-preserved : goal.loop-place-preserved
loop-place-preserved c = took_more _ _ _ _ _ _ c.loop-place.invariant c.in_ok-push_piece.ensures.ok c.piece.ensures (omega (arith, c.loop-place-test.true, c.len-place-end.ensures))
