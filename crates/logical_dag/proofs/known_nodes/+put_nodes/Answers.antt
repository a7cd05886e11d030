-- The facts of a child's nodes stand before those of the node, the child's own last.
use Rattle.std.proofs.Common.{◌≡◌, ℕ, ◌-◌, length, subst, rules}
use Rattle.logical_trees.specs.declared.logical.Logical.{out-Logical}
use Rattle.logical_trees.specs.Tree.{tree_of}
use Rattle.logical_trees.specs.Formed.{IsFormed}
use Rattle.logical_dag.specs.Laws.{lent_columns}
use Rattle.logical_dag.specs.KnownNodes.{IsPutAbove, IsPutOver}
use Rattle.logical_trees.specs.ShapeLemmas.{tree_one, tree_two, no_child}
use Rattle.logical_dag.proofs.KnownNodes.{last_has, kept_has, above_asks, over_asks, above_put, over_put, if_ok_more}
use Rattle.logical_dag.proofs.known_nodes.+put_nodes.Goals as goal

pub put_above-requires : goal.put_above-requires
put_above-requires t c =
    let shared = c.args.shared.now in
    let below = tree_of c.below-item.result in
    let shape = tree_one c.args.tree.now c.as_slice.result.now c.below-item.result c.as_slice.ensures c.in-len1.len_at_least c.in-len1.len_below c.below-item.is in
    let formed = subst (λ e. IsFormed (lent_columns shared) e) shape c.requires in
    let n : c.len-last.result ≡ length c.put_nodes.new.known.items = search rules in
    rw n (above_asks shared c.put_nodes.new.known.items (out-Logical c.args.tree.now).op below (length c.put_nodes.new.known.items - 1) formed (last_has shared below c.args.known.now.items c.put_nodes.new.known.items c.in_ok-put_nodes-in-len1.ensures).1)

pub returns-in_ok-put_nodes-in-len1 : goal.returns-in_ok-put_nodes-in-len1
returns-in_ok-put_nodes-in-len1 t c =
    let shared = c.args.shared.now in
    let below = tree_of c.below-item.result in
    let op = (out-Logical c.args.tree.now).op in
    let middle = c.put_nodes.new.known.items in
    let after = c.put_above.new.known.items in
    let shape = tree_one c.args.tree.now c.as_slice.result.now c.below-item.result c.as_slice.ensures c.in-len1.len_at_least c.in-len1.len_below c.below-item.is in
    let formed = subst (λ e. IsFormed (lent_columns shared) e) shape c.requires in
    let n : c.len-last.result ≡ length middle = search rules in
    rw shape
    (if_ok_more c.put_above.result
    (λ p. above_put shared op below c.args.known.now.items middle after formed c.in_ok-put_nodes-in-len1.ensures (subst (λ (i : ℕ). IsPutAbove op (i - 1) middle after) n p))
    c.put_above.ensures)

pub overflow_sub-of_left : goal.overflow_sub-of_left
overflow_sub-of_left t c =
    let n : c.len-of_left.result ≡ length c.put_nodes-in-len2-up.new.known.items = search rules in
    rw n (last_has c.args.shared.now (tree_of c.left-item.result) c.args.known.now.items c.put_nodes-in-len2-up.new.known.items c.in_ok-put_nodes-in-len2-up.ensures).0

pub overflow_sub-of_right : goal.overflow_sub-of_right
overflow_sub-of_right t c =
    let n : c.len-of_right.result ≡ length c.put_nodes-in-len2-up-2.new.known.items = search rules in
    rw n (last_has c.args.shared.now (tree_of c.right-item.result) c.put_nodes-in-len2-up.new.known.items c.put_nodes-in-len2-up-2.new.known.items c.in_ok-put_nodes-in-len2-up-2.ensures).0

pub put_over-requires : goal.put_over-requires
put_over-requires t c =
    let shared = c.args.shared.now in
    let left = tree_of c.left-item.result in
    let right = tree_of c.right-item.result in
    let middle = c.put_nodes-in-len2-up.new.known.items in
    let both = c.put_nodes-in-len2-up-2.new.known.items in
    let shape = tree_two c.args.tree.now c.as_slice.result.now c.left-item.result c.right-item.result c.as_slice.ensures c.in-len2-up.len_at_least c.left-item.is c.right-item.is in
    let formed = subst (λ e. IsFormed (lent_columns shared) e) shape c.requires in
    let n : c.len-of_left.result ≡ length middle = search rules in
    let m : c.len-of_right.result ≡ length both = search rules in
    rw (n, m)
    (over_asks shared both (out-Logical c.args.tree.now).op left right (length middle - 1) (length both - 1) formed
    (kept_has shared right middle both c.in_ok-put_nodes-in-len2-up-2.ensures left (length middle - 1) (last_has shared left c.args.known.now.items middle c.in_ok-put_nodes-in-len2-up.ensures).1)
    (last_has shared right middle both c.in_ok-put_nodes-in-len2-up-2.ensures).1)

pub returns-in_ok-put_nodes-in-len2-up-2 : goal.returns-in_ok-put_nodes-in-len2-up-2
returns-in_ok-put_nodes-in-len2-up-2 t c =
    let shared = c.args.shared.now in
    let left = tree_of c.left-item.result in
    let right = tree_of c.right-item.result in
    let op = (out-Logical c.args.tree.now).op in
    let middle = c.put_nodes-in-len2-up.new.known.items in
    let both = c.put_nodes-in-len2-up-2.new.known.items in
    let after = c.put_over.new.known.items in
    let shape = tree_two c.args.tree.now c.as_slice.result.now c.left-item.result c.right-item.result c.as_slice.ensures c.in-len2-up.len_at_least c.left-item.is c.right-item.is in
    let formed = subst (λ e. IsFormed (lent_columns shared) e) shape c.requires in
    let n : c.len-of_left.result ≡ length middle = search rules in
    let m : c.len-of_right.result ≡ length both = search rules in
    rw shape
    (if_ok_more c.put_over.result
    (λ p. over_put shared op left right c.args.known.now.items middle both after formed c.in_ok-put_nodes-in-len2-up.ensures c.in_ok-put_nodes-in-len2-up-2.ensures
    (subst (λ (j : ℕ). IsPutOver op (length middle - 1) (j - 1) both after) m (subst (λ (i : ℕ). IsPutOver op (i - 1) (c.len-of_right.result - 1) both after) n p)))
    c.put_over.ensures)

pub returns-in-empty : goal.returns-in-empty
returns-in-empty t c =
    let shape = no_child c.args.tree.now c.as_slice.result.now c.as_slice.ensures c.in-empty.len_below in
    rw shape c.put_leaf.ensures
