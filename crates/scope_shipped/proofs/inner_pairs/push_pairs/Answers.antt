use Rattle.std.proofs.Common.{◌≡◌, ◌++◌, ◌∙◌, ℕ, List, ap, sym, take}
use Rattle.std.proofs.lemmas.List.{take-map}
use Rattle.scope_value.specs.declared.value.Value.{Value}
use Rattle.user_ops.specs.Appends.{AddsSome}
use Rattle.scope_shipped.specs.InnerPairs.{pairs_of}
use Rattle.scope_shipped.proofs.Exits.{on_err}
use Rattle.scope_shipped.proofs.inner_pairs.push_pairs.Goals as goal

some_pairs : (old now right : List (List Value)) (left : List Value) (i : ℕ) → now ≡ old ++ pairs_of (take i right) left → AddsSome old now (pairs_of right left)
some_pairs old now right left i is = (i, is ∙ ap (λ (l : List (List Value)). old ++ l) (sym (take-map (λ r. left ++ r) i right)))

pub returns-in_err-pair-clause-err : goal.returns-in_err-pair-clause-err
returns-in_err-pair-clause-err c =
    on_err _ _ (some_pairs _ _ c.args.right.now c.args.left.now c.loop-row.row-index c.loop-row.invariant)

pub returns-in_err-push-clause-err : goal.returns-in_err-push-clause-err
returns-in_err-push-clause-err c =
    rw c.in_err-push.ensures.items
    (on_err _ _ (some_pairs _ _ c.args.right.now c.args.left.now c.loop-row.row-index c.loop-row.invariant))
