use Rattle.std.proofs.Common.{◌≡◌, take}
use Rattle.std.specs.List.{flat_map}
use Rattle.logical_trees.specs.Rows.{in_order, order_of, with_key, left_columns, right_columns}
use Rattle.plain_meaning.proofs.calls.combine_each.Given as goal

abbrev pub invariant-loop-k : goal.invariant-loop-k
invariant-loop-k g l =
    let gives = ((goal.Combiner-dyn g l.op.now).told_combiner l.op.now.1).combines l.args in
    l.given.items
    ≡ flat_map
    (λ k. gives
    (in_order l.left.cols (order_of l.left.presort.now) (with_key l.left.cols (left_columns l.on) k l.left.rows.now))
    (in_order l.right.cols (order_of l.right.presort.now) (with_key l.right.cols (right_columns l.on) k l.right.rows.now)))
    (take l.k-index l.k-items)
