use Rattle.user_ops.specs.contracts.op_set.OpSetTells.TheImpl as impl
use Rattle.std.proofs.Common.{◌≡◌}
use Rattle.plain_runner.proofs.BagLemmas.{shared_there, shared_whole, shared_more}
use Rattle.plain_runner.proofs.shared.shared_bags.Goals as goal

pub bag_of-requires-clause-there : goal.bag_of-requires-clause-there
bag_of-requires-clause-there g c =
    shared_there ((impl.ghosts g.dyn-1 g.dyn-2 g.dyn-3 g.dyn-4).tells c.args.ops.now) c.args.dag.now c.loop-tree.tree-index c.tree-item.result
    (rw c.as_slice-tree-items.ensures at c.loop-tree-test.true) (rw c.as_slice-tree-items.ensures at c.tree-item.is) c.requires.there

pub bag_of-requires-clause-whole : goal.bag_of-requires-clause-whole
bag_of-requires-clause-whole g c =
    shared_whole ((impl.ghosts g.dyn-1 g.dyn-2 g.dyn-3 g.dyn-4).tells c.args.ops.now) c.args.dag.now c.loop-tree.tree-index c.tree-item.result
    (rw c.as_slice-tree-items.ensures at c.loop-tree-test.true) (rw c.as_slice-tree-items.ensures at c.tree-item.is) c.requires.bindable

pub loop-tree-preserved : goal.loop-tree-preserved
loop-tree-preserved g c =
    rw c.in_ok-push.ensures.items
    (shared_more ((impl.ghosts g.dyn-1 g.dyn-2 g.dyn-3 g.dyn-4).tells c.args.ops.now) c.args.dag.now c.loop-tree.tree-index c.tree-item.result
    (rw c.as_slice-tree-items.ensures at c.loop-tree-test.true) (rw c.as_slice-tree-items.ensures at c.tree-item.is)
    c.args.scans.now c.loop-tree.bags.items c.in_ok-bag.bag c.requires.bindable c.loop-tree.invariant (rw c.as_slice.ensures.value at c.in_ok-bag.ensures))
