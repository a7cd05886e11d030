use Rattle.std.proofs.Common.{◌≡◌, ◌<◌, ◌+◌, true, false, length, take, refl, [], ◌∷◌, ◌++◌, sym, ap, ◌∙◌, arith}
use Rattle.std.proofs.lemmas.List.{take_more}
use Rattle.std.specs.List.{list_any}
use Rattle.std.specs.Ordering.{eq_by_cmp}
use Rattle.scope_value.specs.Order.{row_cmp}
use Rattle.plain_meaning.proofs.DistinctLemmas.{distinct_step}
use Rattle.plain_meaning.proofs.keyed.distinct_rows.Goals as goal
use Rattle.plain_meaning.proofs.keyed.distinct_rows.Goals.{then-not-contains+in_ok-copy+in_ok-push, else-not-contains}

pub loop-row-preserved : goal.loop-row-preserved
loop-row-preserved c =
    let lt : c.loop-row.row-index < length c.args.rows.now = omega arith in
    let more : take (c.loop-row.row-index + 1) c.args.rows.now ≡ take c.loop-row.row-index c.args.rows.now ++ c.row-item.result ∷ []
    = take_more _ c.loop-row.row-index c.row-item.result lt ∙ ap (λ r. take c.loop-row.row-index c.args.rows.now ++ r ∷ []) (sym c.row-item.is) in
    let found : list_any (λ y. eq_by_cmp row_cmp y c.row-item.result) c.loop-row.kept.items ≡ c.contains.result
    = ap (list_any (λ y. eq_by_cmp row_cmp y c.row-item.result)) (sym c.as_slice.ensures.value) ∙ sym c.contains.ensures.value in
    elim c.if-not-contains.branch [
      | then-not-contains+in_ok-copy+in_ok-push w ↦ distinct_step _ _ c.row-item.result _ _ _ false more c.loop-row.invariant w.in_ok-copy.ensures (found ∙ w.if-not-contains.true) (ap (λ v. v.items) w.kept-is ∙ w.in_ok-push.ensures.items)
      | else-not-contains w ↦ distinct_step _ _ c.row-item.result c.row-item.result _ _ true more c.loop-row.invariant refl (found ∙ w.if-not-contains.false) (ap (λ v. v.items) w.kept-is)
    ]
