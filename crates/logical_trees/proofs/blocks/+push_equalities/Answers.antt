-- A Join's equalities are those of its sides and its own.
use Rattle.std.proofs.Common.{◌≡◌, ◌-◌, ◌++◌, map, length, ap, ◌∙◌, arith, length-append}
use Rattle.std.proofs.lemmas.List.{length-map}
use Rattle.logical_trees.specs.Tree.{nodes, tree_of}
use Rattle.logical_trees.specs.Blocks.{equality}
use Rattle.logical_trees.specs.BlockShapeLemmas.{tree_join}
use Rattle.logical_trees.proofs.BlockReading.{all_added, room_of_two}
use Rattle.logical_trees.proofs.blocks.+push_equalities.Goals as goal

pub returns-in-len2-up-clause-value : goal.returns-in-len2-up-clause-value
returns-in-len2-up-clause-value t c =
    let left = c.left-item.result in
    let right = c.right-item.result in
    let join = tree_join c.args.tree.now c.as_slice.result.now left right c.in-Join.on c.as_slice.ensures c.in-len2-up.len_at_least c.left-item.is c.right-item.is c.in-Join.is in
    let e = c.first_number.ensures in
    let first : c.first_number.result - 1 ≡ c.args.number - length (nodes (tree_of right)) - 1 = omega (arith, e) in
    all_added (tree_of c.args.tree.now) (tree_of left) (tree_of right) c.in-Join.on c.args.number (c.first_number.result - 1) c.args.equalities.now.items c.push_equalities.new.equalities.items
    c.push_equalities-in-len2-up.new.equalities.items c.push_pairs.new.equalities.items join first c.push_equalities.ensures.value c.push_equalities-in-len2-up.ensures.value
    (c.push_pairs.ensures ∙ ap (λ pairs. c.push_equalities-in-len2-up.new.equalities.items ++ map (equality c.args.number) pairs) c.as_slice-in-len2-up.ensures.value)

pub returns-in-len2-up-clause-room : goal.returns-in-len2-up-clause-room
returns-in-len2-up-clause-room t c =
    let left = c.left-item.result in
    let right = c.right-item.result in
    let join = tree_join c.args.tree.now c.as_slice.result.now left right c.in-Join.on c.as_slice.ensures c.in-len2-up.len_at_least c.left-item.is c.right-item.is c.in-Join.is in
    let pairs = c.as_slice-in-len2-up.result.now in
    let most = c.as_slice-in-len2-up.ensures.fits in
    let added = ap length c.push_pairs.ensures ∙ length-append c.push_equalities-in-len2-up.new.equalities.items (map (equality c.args.number) pairs) in
    let many = length-map pairs (equality c.args.number) in
    room_of_two (tree_of c.args.tree.now) (tree_of left) (tree_of right) c.in-Join.on (length c.args.equalities.now.items) (length c.push_equalities.new.equalities.items)
    (length c.push_equalities-in-len2-up.new.equalities.items) (length c.push_pairs.new.equalities.items) (length pairs) join c.push_equalities.ensures.room c.push_equalities-in-len2-up.ensures.room
    (omega (arith, added, many)) (omega (arith, most))
