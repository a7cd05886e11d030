use Rattle.std.proofs.Common.{◌≡◌, ℕ, List, map, ap, ap₂, ◌∙◌}
use Rattle.logical_trees.specs.declared.logic_op.LogicOp.TheVariants.{Combine}
use Rattle.script_meaning.specs.Part.{order_at}
use Rattle.script_nodes.specs.Steps.{column_at}
use Rattle.script_nodes.proofs.over_two.combine_in.Goals as goal

pub returns : goal.returns
returns c =
    let pairs : c.pairs_in-on.result.items ≡ map {B = ℕ × ℕ} (λ p. (column_at c.args.left.now.cols.items p.0, column_at c.args.right.now.cols.items p.1)) c.args.on.now =
    c.pairs_in-on.ensures ∙ ap₂ (λ (a b : List ℕ). map {B = ℕ × ℕ} (λ p. (column_at a p.0, column_at b p.1)) c.args.on.now) c.as_slice.ensures.value c.as_slice-2.ensures.value in
    let before : c.order_in-before.result ≡ order_at (column_at c.args.left.now.cols.items) c.args.before.now =
    c.order_in-before.ensures ∙ ap (λ cols. order_at (column_at cols) c.args.before.now) c.as_slice-3.ensures.value in
    let after : c.order_in-after.result ≡ order_at (column_at c.args.right.now.cols.items) c.args.after.now =
    c.order_in-after.ensures ∙ ap (λ cols. order_at (column_at cols) c.args.after.now) c.as_slice-4.ensures.value in
    (λ i. Combine (c.in_ok-call.ensures i) (record { items = pairs i }) (before i) (after i))
