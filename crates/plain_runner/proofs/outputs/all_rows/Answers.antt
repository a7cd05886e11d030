use Rattle.user_ops.specs.contracts.op_set.OpSetTells.TheImpl as impl
use Rattle.std.proofs.Common.{◌≡◌}
use Rattle.plain_runner.proofs.BagLemmas.{output_there, output_whole, output_more}
use Rattle.plain_runner.proofs.outputs.all_rows.Goals as goal

pub rows_of-requires-clause-there : goal.rows_of-requires-clause-there
rows_of-requires-clause-there g c =
    output_there ((impl.ghosts g.dyn-1 g.dyn-2 g.dyn-3 g.dyn-4).tells c.args.ops.now) c.args.dag.now c.loop-output.output-index c.output-item.result
    (rw c.as_slice-output-items.ensures at c.loop-output-test.true) (rw c.as_slice-output-items.ensures at c.output-item.is) c.requires.there

pub rows_of-requires-clause-whole : goal.rows_of-requires-clause-whole
rows_of-requires-clause-whole g c =
    output_whole ((impl.ghosts g.dyn-1 g.dyn-2 g.dyn-3 g.dyn-4).tells c.args.ops.now) c.args.dag.now c.loop-output.output-index c.output-item.result
    (rw c.as_slice-output-items.ensures at c.loop-output-test.true) (rw c.as_slice-output-items.ensures at c.output-item.is) c.requires.bindable

pub loop-output-preserved : goal.loop-output-preserved
loop-output-preserved g c =
    rw c.in_ok-push.ensures.items
    (output_more ((impl.ghosts g.dyn-1 g.dyn-2 g.dyn-3 g.dyn-4).tells c.args.ops.now) c.args.dag.now c.loop-output.output-index c.output-item.result
    (rw c.as_slice-output-items.ensures at c.loop-output-test.true) (rw c.as_slice-output-items.ensures at c.output-item.is)
    c.args.scans.now c.args.shared.now c.loop-output.all.items c.in_ok-rows.rows c.loop-output.invariant c.in_ok-rows.ensures)
