use Rattle.user_ops.specs.contracts.op_set.OpSetTells.TheImpl as impl
use Rattle.logical_trees.specs.Tree.{tree_of}
use Rattle.logical_trees.specs.declared.logical.Logical.{out-Logical}
use Rattle.logical_trees.specs.ShapeLemmas.{tree_two}
use Rattle.plain_meaning.specs.Plain.{sources}
use Rattle.plain_meaning.proofs.PlainLemmas.{two_stands}
use Rattle.plain_meaning.proofs.plain.+plain_bag.Goals as goal

pub returns-in-Some-3-clause-stands : goal.returns-in-Some-3-clause-stands
returns-in-Some-3-clause-stands g t c =
    two_stands
    ((impl.ghosts g.dyn-1 g.dyn-2 g.dyn-3 g.dyn-4).tells c.args.ops.now)
    (sources c.args.scans.now c.args.shared.now)
    (out-Logical c.args.tree.now).op
    (tree_of c.t-item-2.result)
    (tree_of c.u-item.result)
    (tree_of c.args.tree.now)
    c.in-Some-2.a.items
    c.in-Some-3.b.items
    c.two_bag.result
    (tree_two c.args.tree.now c.as_slice.result.now c.t-item-2.result c.u-item.result c.as_slice.ensures c.in-len2-up.len_at_least c.t-item-2.is c.u-item.is)
    (rw c.in-Some-2.is at c.in_ok-a-in-len2-up.ensures.stands)
    (rw c.in-Some-3.is at c.in_ok-b-in-len2-up.ensures.stands)
    (rw (c.columns_of-left.ensures, c.columns_of-right.ensures, c.as_slice-in-len2-up.ensures.value, c.as_slice-in-len2-up-2.ensures.value) at c.two_bag.ensures.given)
