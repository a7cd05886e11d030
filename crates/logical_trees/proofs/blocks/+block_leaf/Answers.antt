-- An expression that is no Join is its only leaf, and a Join has the leaves of its sides, the left ones first.
use Rattle.logical_trees.specs.Tree.{tree_of}
use Rattle.logical_trees.specs.BlockShapeLemmas.{other_kind, few_kids, tree_join}
use Rattle.logical_trees.proofs.BlockReading.{own_leaf, left_leaf, right_leaf}
use Rattle.logical_trees.proofs.blocks.+block_leaf.Goals as goal

pub returns-in_default : goal.returns-in_default
returns-in_default t c = own_leaf (tree_of c.args.tree.now) c.args.number c.own_leaf.result (other_kind c.args.tree.now c.in_default.not-Join) c.own_leaf.ensures

pub returns-in_default-as_slice : goal.returns-in_default-as_slice
returns-in_default-as_slice t c =
    own_leaf (tree_of c.args.tree.now) c.args.number c.own_leaf-in_default-as_slice.result (few_kids c.args.tree.now c.as_slice.result.now c.as_slice.ensures c.in_default-as_slice.len_below)
    c.own_leaf-in_default-as_slice.ensures

pub returns-in-Ok : goal.returns-in-Ok
returns-in-Ok t c =
    let left = c.left-item.result in
    let right = c.right-item.result in
    let join = tree_join c.args.tree.now c.as_slice.result.now left right c.in-Join.on c.as_slice.ensures c.in-len2-up.len_at_least c.left-item.is c.right-item.is c.in-Join.is in
    left_leaf (tree_of c.args.tree.now) (tree_of left) (tree_of right) c.in-Join.on c.args.number (tree_of c.in-Ok.leaf.now) join c.in-Ok.ensures

pub returns-in-Err : goal.returns-in-Err
returns-in-Err t c =
    let left = c.left-item.result in
    let right = c.right-item.result in
    let join = tree_join c.args.tree.now c.as_slice.result.now left right c.in-Join.on c.as_slice.ensures c.in-len2-up.len_at_least c.left-item.is c.right-item.is c.in-Join.is in
    right_leaf (tree_of c.args.tree.now) (tree_of left) (tree_of right) c.in-Join.on c.args.number c.in-Err.past c.block_leaf-in-Err.result join c.in-Err.ensures c.block_leaf-in-Err.ensures
