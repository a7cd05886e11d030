use Rattle.std.proofs.Common.{List, map, ap, ap₂, ◌∙◌}
use Rattle.script_trees.specs.declared.raw_agg.RawAgg.{RawAgg}
use Rattle.binding_causes.specs.Found.{either, any_of, in_agg}
use Rattle.binding_causes.proofs.asking.in_values.Goals as goal

pub returns : goal.returns
returns c =
    c.or-2.ensures
    ∙ ap₂ either c.in_ok-exprs.ensures
    (c.or.ensures
    ∙ ap₂ either c.in_ok-tests.ensures
    (c.in_ok-aggs.ensures ∙ ap (λ (aggs : List RawAgg). any_of in_agg (map (λ a. (c.args.view.now.names, a)) aggs)) c.as_slice.ensures))
