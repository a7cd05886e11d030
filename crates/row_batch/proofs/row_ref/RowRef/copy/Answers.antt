use Rattle.std.proofs.Common.{◌∙◌, arith}
use Rattle.row_batch.proofs.RowLemmas.{took_one}
use Rattle.row_batch.proofs.row_ref.RowRef.copy.Goals as goal

pub loop-place-preserved : goal.loop-place-preserved
loop-place-preserved c = took_one _ _ _ _ _ c.loop-place.invariant (omega (arith, c.loop-place-test.true, c.len-place-end.ensures)) (c.in_ok-copy.ensures ∙ c.at.ensures) c.in_ok-push.ensures.ok
