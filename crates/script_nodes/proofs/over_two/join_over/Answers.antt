use Rattle.std.proofs.Common.{◌≡◌, ℕ, ◌++◌, List, map, ap, ap₂, ◌∙◌}
use Rattle.std.proofs.lemmas.Result.{IfOk-weaker, IfOk-at_ok}
use Rattle.logical_trees.specs.declared.logic_op.LogicOp.TheVariants.{Join}
use Rattle.logical_trees.specs.Tree.{tree_of, two}
use Rattle.script_nodes.specs.Steps.{column_at}
use Rattle.script_nodes.proofs.Standing.{join_step}
use Rattle.script_nodes.proofs.over_two.join_over.Goals as goal

pub returns : goal.returns
returns c =
    let left = c.args.left in
    let right = c.args.right in
    let pairs : c.pairs_in-on.result.items ≡ map {B = ℕ × ℕ} (λ p. (column_at left.cols.items p.0, column_at right.cols.items p.1)) c.args.on.now =
    c.pairs_in-on.ensures ∙ ap₂ (λ (a b : List ℕ). map {B = ℕ × ℕ} (λ p. (column_at a p.0, column_at b p.1)) c.args.on.now) c.as_slice.ensures.value c.as_slice-2.ensures.value in
    let cols : c.in_ok-a.cols.items ≡ left.cols.items ++ right.cols.items = IfOk-at_ok (λ all. all.items ≡ left.cols.items ++ right.cols.items) c.in_ok-a.ensures.1 c.with_columns.ensures in
    let a : c.in_ok-a.a ≡ left.tree = ap (λ x. x.0) c.in_ok-a.ensures.0 in
    let b : c.in_ok-a.b ≡ right.tree = ap (λ x. x.1) c.in_ok-a.ensures.0 in
    IfOk-weaker c.node_over_two.result _ _
    (λ m n. join_step c.args.on.now left right m c.requires.on.1
    (record { tree = n.tree ∙ (λ i. two (Join (record { items = pairs i })) (tree_of (a i)) (tree_of (b i))); cols = n.cols ∙ cols; next = n.next })) c.node_over_two.ensures
