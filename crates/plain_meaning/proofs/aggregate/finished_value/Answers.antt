use Rattle.std.proofs.Common.{◌≡◌, List, map, IfOk, ap, ◌∙◌, subst}
use Rattle.scope_value.specs.declared.value.Value.{Value}
use Rattle.structural_props.specs.Rows.{value_at}
use Rattle.logical_trees.specs.Rows.{together, fitted}
use Rattle.plain_meaning.proofs.aggregate.finished_value.Goals as goal

pub returns : goal.returns
returns c =
    let values : c.in_ok-values.values.items ≡ map (λ r. value_at c.args.cols r c.args.agg.now.id) c.args.rows.now.items
    = c.in_ok-values.ensures ∙ ap (map (λ r. value_at c.args.cols r c.args.agg.now.id)) c.as_slice.ensures.value in
    subst (λ (vs : List Value). IfOk c.finished.result (λ v. v ≡ fitted c.args.agg.now.kind (together c.args.agg.now.kind vs))) values c.finished.ensures
