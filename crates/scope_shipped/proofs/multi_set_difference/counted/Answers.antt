use Rattle.scope_shipped.proofs.Differences.{count-added}
use Rattle.scope_shipped.proofs.multi_set_difference.counted.Goals as goal

pub loop-row-preserved : goal.loop-row-preserved
loop-row-preserved c = λ row.
    count-added row c.row-item.result c.args.rows.now c.loop-row.row-index _ _ c.loop-row-test.true c.row-item.is (c.loop-row.invariant row) (c.in_ok-add.ensures row)
