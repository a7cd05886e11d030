use Rattle.std.proofs.Common.{◌∙◌, arith, ◌≤◌, ◌<◌, length}
use Rattle.row_batch.proofs.RowLemmas.{block_more, block_first, on_err}
use Rattle.row_batch.proofs.batch.Batch.block.Goals as goal

pub returns-in_err-copy-clause-err : goal.returns-in_err-copy-clause-err
returns-in_err-copy-clause-err c = on_err c.from_residual.result (block_first _ _ _ c.args.from c.loop-at.at c.args.to c.loop-at.invariant (omega (arith, c.loop-at-test.true)))

pub returns-in_err-push-clause-err : goal.returns-in_err-push-clause-err
returns-in_err-push-clause-err c = on_err c.from_residual-in_err-push.result (block_first _ _ _ c.args.from c.loop-at.at c.args.to (c.in_err-push.ensures.items ∙ c.loop-at.invariant) (omega (arith, c.loop-at-test.true)))

pub loop-at-preserved : goal.loop-at-preserved
loop-at-preserved c = block_more _ _ _ _ c.args.from c.loop-at.at _ c.loop-at.invariant c.in_ok-push.ensures.items (c.in_ok-copy.ensures ∙ c.row.ensures.value) c.loop-at.auto.at (omega (arith, c.loop-at-test.true, c.requires.there))
