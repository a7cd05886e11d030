use Rattle.std.proofs.Common.{arith}
use Rattle.logical_trees.specs.Tree.{tree_of}
use Rattle.logical_trees.proofs.NodeNumbers.{one_child, two_children, many_one, many_two, none_numbered, one_numbered, one_past, left_numbered, right_numbered}
use Rattle.logical_trees.proofs.nodes.child_number.Goals as goal
use Rattle.logical_trees.specs.ShapeLemmas.{no_child}

pub overflow_sub-result : goal.overflow_sub-result
overflow_sub-result c =
    let s = one_child c.args.node.now c.as_slice.result.now c.as_slice.ensures c.in-len1.len_at_least c.in-len1.len_below in
    many_one (tree_of c.args.node.now) _ (tree_of s.0) c.args.number s.1 c.requires

pub first_number-requires : goal.first_number-requires
first_number-requires c =
    let s = two_children c.args.node.now c.as_slice.result.now c.right-item.result c.as_slice.ensures c.in-len2-up.len_at_least c.right-item.is in
    let l = many_two (tree_of c.args.node.now) _ (tree_of s.0) (tree_of c.right-item.result) c.args.number s.1 c.requires in
    omega (arith, l)

pub overflow_sub-result-in-0 : goal.overflow_sub-result-in-0
overflow_sub-result-in-0 c =
    let s = two_children c.args.node.now c.as_slice.result.now c.right-item.result c.as_slice.ensures c.in-len2-up.len_at_least c.right-item.is in
    let l = many_two (tree_of c.args.node.now) _ (tree_of s.0) (tree_of c.right-item.result) c.args.number s.1 c.requires in
    let e = c.first_number.ensures in
    omega (arith, l, e)

pub overflow_sub-result-in-1 : goal.overflow_sub-result-in-1
overflow_sub-result-in-1 c =
    let s = two_children c.args.node.now c.as_slice.result.now c.right-item.result c.as_slice.ensures c.in-len2-up.len_at_least c.right-item.is in
    let l = many_two (tree_of c.args.node.now) _ (tree_of s.0) (tree_of c.right-item.result) c.args.number s.1 c.requires in
    omega (arith, l)

pub returns-in-empty : goal.returns-in-empty
returns-in-empty c = none_numbered (tree_of c.args.node.now) _ c.args.number c.args.child (no_child c.args.node.now c.as_slice.result.now c.as_slice.ensures c.in-empty.len_below)

pub returns-then-child-eq0 : goal.returns-then-child-eq0
returns-then-child-eq0 c =
    let s = one_child c.args.node.now c.as_slice.result.now c.as_slice.ensures c.in-len1.len_at_least c.in-len1.len_below in
    one_numbered (tree_of c.args.node.now) _ (tree_of s.0) c.args.number c.args.child s.1 c.if-child-eq0.true

pub returns-else-child-eq0 : goal.returns-else-child-eq0
returns-else-child-eq0 c =
    let s = one_child c.args.node.now c.as_slice.result.now c.as_slice.ensures c.in-len1.len_at_least c.in-len1.len_below in
    one_past (tree_of c.args.node.now) _ (tree_of s.0) c.args.number c.args.child s.1 c.if-child-eq0.false

pub returns-in-0 : goal.returns-in-0
returns-in-0 c =
    let s = two_children c.args.node.now c.as_slice.result.now c.right-item.result c.as_slice.ensures c.in-len2-up.len_at_least c.right-item.is in
    left_numbered (tree_of c.args.node.now) _ (tree_of s.0) (tree_of c.right-item.result) c.args.number c.args.child c.first_number.result s.1 c.in-0.is c.first_number.ensures

pub returns-in-1 : goal.returns-in-1
returns-in-1 c =
    let s = two_children c.args.node.now c.as_slice.result.now c.right-item.result c.as_slice.ensures c.in-len2-up.len_at_least c.right-item.is in
    right_numbered (tree_of c.args.node.now) _ (tree_of s.0) (tree_of c.right-item.result) c.args.number c.args.child s.1 c.in-1.is
