use Rattle.std.proofs.Common.{◌≡◌, ◌<◌, ◌+◌, ◌+ℤ◌, length, take, [], ◌∷◌, ◌++◌, sym, ap, ap₂, ◌∙◌, arith}
use Rattle.std.proofs.lemmas.Int.{ints}
use Rattle.std.proofs.lemmas.List.{take_more}
use Rattle.logical_trees.specs.Rows.{total}
use Rattle.logical_trees.specs.AggregateLemmas.{total-push}
use Rattle.plain_meaning.specs.Sums.{sum_of}
use Rattle.plain_meaning.proofs.exact_sum.total.Goals as goal

pub loop-value-preserved : goal.loop-value-preserved
loop-value-preserved c =
    let lt : c.loop-value.value-index < length c.args.values.now = omega arith in
    let more : take (c.loop-value.value-index + 1) c.args.values.now ≡ take c.loop-value.value-index c.args.values.now ++ c.value-item.result ∷ []
    = take_more _ c.loop-value.value-index c.value-item.result lt ∙ ap (λ v. take c.loop-value.value-index c.args.values.now ++ v ∷ []) (sym c.value-item.is) in
    let added : sum_of c.plus-sum.result ≡ sum_of c.loop-value.sum +ℤ c.number.result = omega (arith, ints) in
    record {
      value = added ∙ ap₂ ◌+ℤ◌ c.loop-value.invariant.value c.number.ensures ∙ sym (total-push (take c.loop-value.value-index c.args.values.now) c.value-item.result) ∙ ap total (sym more);
      low = omega (arith, ints);
      high = omega (arith, ints);
    }
