use Rattle.std.proofs.Common.{◌≡◌, ◌+◌, ◌<◌, ◌++◌, ◌∙◌, ℕ, List, length, get_or, drop, sym, ap}
use Rattle.std.specs.List.{flat_map}
use Rattle.std.proofs.lemmas.List.{drop_more}
use Rattle.scope_value.specs.declared.value.Value.{Value}
use Rattle.user_ops.specs.Adding.{IsAdding-left, AddsSome-from_part}
use Rattle.scope_shipped.specs.InnerPairs.{pairs_of}
use Rattle.scope_shipped.proofs.Exits.{on_err}
use Rattle.scope_shipped.proofs.inner_pairs.push_each_pair.Goals as goal

-- the pairs of the next left row come first
next_pairs : (right left : List (List Value)) (i : ℕ) (l : List Value) → i < length left → l ≡ get_or left i l
    → flat_map (pairs_of right) (drop i left) ≡ pairs_of right l ++ flat_map (pairs_of right) (drop (i + 1) left)
next_pairs right left i l lt is =
    ap (flat_map (pairs_of right)) (drop_more left i l lt)
    ∙ ap (λ (x : List Value). pairs_of right x ++ flat_map (pairs_of right) (drop (i + 1) left)) (sym is)

pub returns-in_err-push_pairs-clause-err : goal.returns-in_err-push_pairs-clause-err
returns-in_err-push_pairs-clause-err c =
    on_err _ _ (AddsSome-from_part _ _ _
    (flat_map (pairs_of c.args.right.now) (drop (c.loop-row.row-index + 1) c.args.left.now))
    _
    (pairs_of c.args.right.now c.row-item.result)
    (IsAdding-left _ _ _ _ _ c.loop-row.invariant
    (next_pairs c.args.right.now c.args.left.now c.loop-row.row-index c.row-item.result c.loop-row-test.true c.row-item.is))
    c.in_err-push_pairs.ensures.err)
