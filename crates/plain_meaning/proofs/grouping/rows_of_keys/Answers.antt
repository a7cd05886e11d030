use Rattle.std.proofs.Common.{◌≡◌, ◌<◌, ◌+◌, length, take, refl, [], ◌∷◌, ◌++◌, sym, ap, ◌∙◌, arith}
use Rattle.std.proofs.lemmas.List.{take_more}
use Rattle.plain_meaning.specs.Steps.{value_of}
use Rattle.plain_meaning.proofs.GroupingLemmas.{rows_step}
use Rattle.plain_meaning.proofs.grouping.rows_of_keys.Goals as goal

pub loop-k-preserved : goal.loop-k-preserved
loop-k-preserved c =
    let lt : c.loop-k.k-index < length c.args.keys.now = omega arith in
    let more : take (c.loop-k.k-index + 1) c.args.keys.now ≡ take c.loop-k.k-index c.args.keys.now ++ c.k-item.result ∷ []
    = take_more c.args.keys.now c.loop-k.k-index c.k-item.result lt ∙ ap (λ k. take c.loop-k.k-index c.args.keys.now ++ k ∷ []) (sym c.k-item.is) in
    rows_step c.args.args.now c.args.cols c.as_slice.result.now (value_of c.args.step c.args.cols) (take c.loop-k.k-index c.args.keys.now) _ c.k-item.result c.in_ok-row_of_key.field-0
    c.args.rows.now _ c.loop-k.made.items _ more (c.as_slice.ensures.value ∙ c.in_ok-key.ensures) refl c.in_ok-row_of_key.ensures c.loop-k.invariant c.in_ok-push.ensures.items
