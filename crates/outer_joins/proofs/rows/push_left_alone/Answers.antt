use Rattle.std.proofs.Common.{◌≡◌, ◌∙◌, true, List, [], ◌∷◌, ap, sym}
use Rattle.scope_value.specs.declared.value.Value.{Value}
use Rattle.outer_joins.specs.OuterPairs.{keeps_left, nulls}
use Rattle.outer_joins.proofs.PairLemmas.{ok_along, err_along, left-beside}
use Rattle.outer_joins.proofs.rows.push_left_alone.Goals as goal

pub returns-clause-ok : goal.returns-clause-ok
returns-clause-ok c =
    let kept : keeps_left c.args.side ≡ true = sym c.keeps_left.ensures ∙ c.if-not-keeps_left.false in
    let absent : c.from_ref.result.now ≡ nulls c.args.width ∷ [] = c.from_ref.ensures.value ∙ ap (λ (r : List Value). r ∷ []) c.in_ok-absent.ensures in
    ok_along _ _ _ _ _ (left-beside c.args.side c.args.width c.args.left.now c.from_ref.result.now kept absent) c.push_each_pair.ensures.ok

pub returns-clause-err : goal.returns-clause-err
returns-clause-err c =
    let kept : keeps_left c.args.side ≡ true = sym c.keeps_left.ensures ∙ c.if-not-keeps_left.false in
    let absent : c.from_ref.result.now ≡ nulls c.args.width ∷ [] = c.from_ref.ensures.value ∙ ap (λ (r : List Value). r ∷ []) c.in_ok-absent.ensures in
    err_along _ _ _ _ _ (left-beside c.args.side c.args.width c.args.left.now c.from_ref.result.now kept absent) c.push_each_pair.ensures.err
