use Rattle.std.proofs.Common.{◌≡◌, ◌∙◌, ap}
use Rattle.std.proofs.lemmas.Result.{IfOk-weaker, IfOk-at_ok}
use Rattle.logical_trees.specs.declared.logic_op.LogicOp.TheVariants.{Filter}
use Rattle.scope_expr.specs.Moved.{moved}
use Rattle.script_nodes.specs.Steps.{column_at}
use Rattle.script_nodes.proofs.Standing.{same_node, filter_step}
use Rattle.script_nodes.proofs.over_one.filter_over.Goals as goal

pub returns : goal.returns
returns c =
    let e = c.args.test.now in
    let test : c.in_ok-made.test ≡ moved (column_at c.args.made.cols.items) e =
    IfOk-at_ok (λ f. f ≡ moved (column_at c.as_slice.result.now) e) c.in_ok-made.ensures.1 c.expr_in-test.ensures ∙ ap (λ cols. moved (column_at cols) e) c.as_slice.ensures.value in
    IfOk-weaker c.same_over.result _ _
    (λ m n. filter_step e c.args.made m c.requires (same_node (Filter (moved (column_at c.args.made.cols.items) e)) _ c.args.made _ m c.in_ok-made.ensures.0 (ap Filter test) n)) c.same_over.ensures
