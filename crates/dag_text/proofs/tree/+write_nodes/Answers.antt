use Rattle.std.proofs.Common.{arith}
use Rattle.logical_trees.specs.declared.logical.Logical.{out-Logical}
use Rattle.logical_trees.specs.Tree.{tree_of}
use Rattle.logical_trees.specs.ShapeLemmas.{tree_one, tree_two}
use Rattle.dag_text.proofs.NodeLemmas.{one_written, two_written}
use Rattle.dag_text.proofs.tree.+write_nodes.Goals as goal

pub returns-in_ok-write_node-in-len1-clause-text : goal.returns-in_ok-write_node-in-len1-clause-text
returns-in_ok-write_node-in-len1-clause-text t c =
    let tree = c.args.tree.now in
    let kid = c.kid-item.result in
    one_written (tree_of tree) (out-Logical tree).op (tree_of kid) c.args.first c.in_ok-below-in-len1.below c.in_ok-number-in-len1.number c.args.out.now.items c.write_nodes.new.out.items c.write_node-in-len1.new.out.items
    (tree_one tree c.as_slice.result.now kid c.as_slice.ensures (omega arith) (omega arith) c.kid-item.is) c.in_ok-below-in-len1.ensures.number c.in_ok-number-in-len1.ensures
    c.in_ok-below-in-len1.ensures.text c.in_ok-write_node-in-len1.ensures

pub returns-in_ok-write_node-in-len2-up-clause-text : goal.returns-in_ok-write_node-in-len2-up-clause-text
returns-in_ok-write_node-in-len2-up-clause-text t c =
    let tree = c.args.tree.now in
    let left = c.left-item.result in
    let right = c.right-item.result in
    two_written (tree_of tree) (out-Logical tree).op (tree_of left) (tree_of right) c.args.first c.in_ok-left-in-len2-up.left c.in_ok-next-in-len2-up.next c.in_ok-right-in-len2-up.right
    c.in_ok-number-in-len2-up.number c.args.out.now.items c.write_nodes-in-len2-up.new.out.items c.write_nodes-in-len2-up-2.new.out.items c.write_node-in-len2-up.new.out.items
    (tree_two tree c.as_slice.result.now left right c.as_slice.ensures (omega arith) c.left-item.is c.right-item.is)
    c.in_ok-left-in-len2-up.ensures.number c.in_ok-next-in-len2-up.ensures c.in_ok-right-in-len2-up.ensures.number c.in_ok-number-in-len2-up.ensures
    c.in_ok-left-in-len2-up.ensures.text c.in_ok-right-in-len2-up.ensures.text c.in_ok-write_node-in-len2-up.ensures
