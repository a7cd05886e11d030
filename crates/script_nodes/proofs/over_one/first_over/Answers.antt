use Rattle.std.proofs.Common.{◌≡◌, ℕ, map, refl, ap, ◌∙◌}
use Rattle.std.proofs.lemmas.Result.{IfOk-weaker}
use Rattle.col_sets.specs.declared.dir.Dir.{Dir}
use Rattle.logical_trees.specs.declared.logic_op.LogicOp.TheVariants.{Top}
use Rattle.script_nodes.specs.Steps.{column_at}
use Rattle.script_nodes.proofs.Standing.{same_node, first_step}
use Rattle.script_nodes.proofs.over_one.first_over.Goals as goal

pub returns : goal.returns
returns c =
    let order : c.orders_in-order.result ≡ map {B = ℕ × Dir} (λ k. (column_at c.args.made.cols.items k.0, k.1)) c.args.order.now =
    c.orders_in-order.ensures ∙ ap (λ cols. map {B = ℕ × Dir} (λ k. (column_at cols k.0, k.1)) c.args.order.now) c.as_slice.ensures.value in
    IfOk-weaker c.same_over.result _ _
    (λ m n. first_step c.args.n c.args.order.now c.args.made m c.requires.there (same_node _ _ c.args.made c.args.made m refl (ap (λ o. Top (record { n = c.args.n; order = o })) order) n)) c.same_over.ensures
