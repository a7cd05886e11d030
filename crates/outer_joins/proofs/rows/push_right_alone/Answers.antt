use Rattle.std.proofs.Common.{◌≡◌, ◌∙◌, true, List, [], ◌∷◌, ap, sym}
use Rattle.scope_value.specs.declared.value.Value.{Value}
use Rattle.outer_joins.specs.OuterPairs.{keeps_right, nulls}
use Rattle.outer_joins.proofs.PairLemmas.{ok_along, err_along, right-beside}
use Rattle.outer_joins.proofs.rows.push_right_alone.Goals as goal

pub returns-clause-ok : goal.returns-clause-ok
returns-clause-ok c =
    let kept : keeps_right c.args.side ≡ true = sym c.keeps_right.ensures ∙ c.if-not-keeps_right.false in
    let absent : c.from_ref.result.now ≡ nulls c.args.width ∷ [] = c.from_ref.ensures.value ∙ ap (λ (r : List Value). r ∷ []) c.in_ok-absent.ensures in
    ok_along _ _ _ _ _ (right-beside c.args.side c.args.width c.args.right.now c.from_ref.result.now kept absent) c.push_each_pair.ensures.ok

pub returns-clause-err : goal.returns-clause-err
returns-clause-err c =
    let kept : keeps_right c.args.side ≡ true = sym c.keeps_right.ensures ∙ c.if-not-keeps_right.false in
    let absent : c.from_ref.result.now ≡ nulls c.args.width ∷ [] = c.from_ref.ensures.value ∙ ap (λ (r : List Value). r ∷ []) c.in_ok-absent.ensures in
    err_along _ _ _ _ _ (right-beside c.args.side c.args.width c.args.right.now c.from_ref.result.now kept absent) c.push_each_pair.ensures.err
