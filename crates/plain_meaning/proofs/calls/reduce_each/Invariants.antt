use Rattle.std.proofs.Common.{◌≡◌, take}
use Rattle.std.specs.List.{flat_map}
use Rattle.logical_trees.specs.Rows.{in_order, order_of, with_key}
use Rattle.plain_meaning.proofs.calls.reduce_each.Given as goal

abbrev pub invariant-loop-k : goal.invariant-loop-k
invariant-loop-k g l =
    let gives = ((goal.Reducer-dyn g l.op.now).told_reducer l.op.now.1).reduces l.args in
    l.given.items
    ≡ flat_map (λ k. gives (in_order l.input.cols (order_of l.input.presort.now) (with_key l.input.cols l.on k l.input.rows.now))) (take l.k-index l.k-items)
