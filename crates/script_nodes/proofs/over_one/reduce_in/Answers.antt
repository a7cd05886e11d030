use Rattle.std.proofs.Common.{◌≡◌, map, ap, ◌∙◌}
use Rattle.logical_trees.specs.declared.logic_op.LogicOp.TheVariants.{Reduce}
use Rattle.script_meaning.specs.Part.{order_at}
use Rattle.script_nodes.specs.Steps.{column_at}
use Rattle.script_nodes.proofs.over_one.reduce_in.Goals as goal

pub returns : goal.returns
returns c =
    let key : c.key_in-key.result ≡ map (column_at c.args.made.now.cols.items) c.args.on.now = c.key_in-key.ensures ∙ ap (λ cols. map (column_at cols) c.args.on.now) c.as_slice-cols.ensures.value in
    let presort : c.order_in-presort.result ≡ order_at (column_at c.args.made.now.cols.items) c.args.presort.now =
    c.order_in-presort.ensures ∙ ap (λ cols. order_at (column_at cols) c.args.presort.now) c.as_slice-cols.ensures.value in
    (λ i. Reduce (c.in_ok-call.ensures i) (key i) (presort i))
