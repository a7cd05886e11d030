use Rattle.std.proofs.Common.{List, ap, ap₂, ◌∙◌}
use Rattle.script_trees.specs.declared.select.Joined.{Joined}
use Rattle.names_in_sight.specs.declared.input.Input.{Input}
use Rattle.binding_causes.specs.Asked.{asked_by_select, ons_of}
use Rattle.binding_causes.specs.Found.{either, any_of, in_expr, in_test, in_agg, in_on, in_keys}
use Rattle.binding_causes.proofs.FoundLemmas.{either_assoc}
use Rattle.binding_causes.proofs.asking.in_select.Goals as goal

pub returns : goal.returns
returns c =
    let a = asked_by_select c.args.s.now c.args.view.now in
    let exprs = any_of in_expr a.exprs in
    let tests = any_of in_test a.tests in
    let aggs = any_of in_agg a.aggs in
    let rest = either (any_of in_on a.ons) (any_of in_keys a.keys) in
    c.or-2.ensures
    ∙ ap₂ either c.in_ok-values.ensures
    (c.or.ensures
    ∙ ap₂ either
    (c.in_ok-ons.ensures ∙ ap₂ (λ (inputs : List Input) (sources : List Joined). any_of in_on (ons_of inputs sources)) c.as_slice.ensures c.as_slice-2.ensures)
    c.in_ok-lists.ensures)
    ∙ (either_assoc exprs (either tests aggs) rest ∙ ap (either exprs) (either_assoc tests aggs rest))
