use Rattle.std.proofs.Common.{◌++◌, List, sym, ap, ap₂, ◌∙◌}
use Rattle.script_trees.specs.declared.raw_agg.RawAgg.{RawAgg}
use Rattle.binding_causes.specs.Asked.{expr_opt, args_of, items_of}
use Rattle.binding_causes.specs.Found.{either, any_of, in_expr}
use Rattle.binding_causes.proofs.FoundLemmas.{any_of_append}
use Rattle.binding_causes.proofs.asking.in_exprs.Goals as goal

pub returns : goal.returns
returns c =
    let v = c.args.view.now in
    let s = c.args.s.now in
    let filter = expr_opt v.names s.filter in
    let args = args_of v.names s.aggs in
    let items = items_of v.inner s.items in
    let having = expr_opt v.result s.having in
    c.or-3.ensures
    ∙ ap₂ either c.in_ok-filter.ensures
    (c.or-2.ensures
    ∙ ap₂ either (c.in_ok-args.ensures ∙ ap (λ (aggs : List RawAgg). any_of in_expr (args_of v.names aggs)) c.as_slice.ensures)
    (c.or.ensures ∙ ap₂ either c.in_ok-items.ensures c.in_ok-having.ensures ∙ sym (any_of_append in_expr items having))
    ∙ sym (any_of_append in_expr args (items ++ having)))
    ∙ sym (any_of_append in_expr filter (args ++ (items ++ having)))
