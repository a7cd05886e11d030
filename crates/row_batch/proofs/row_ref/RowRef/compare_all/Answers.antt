use Rattle.std.proofs.Common.{◌≡◌, ◌∙◌, ◌<◌, ap₂, sym, length, min, nat_cmp, arith}
use Rattle.scope_value.specs.Order.{value_cmp}
use Rattle.row_batch.proofs.CompareLemmas.{compare_on, compare_out, compare_end}
use Rattle.row_batch.proofs.row_ref.RowRef.compare_all.Goals as goal

pub loop-place-preserved : goal.loop-place-preserved
loop-place-preserved c =
    let here : c.loop-place.place < length c.args.self.now = omega (arith, c.loop-place-test.true, c.min-place-end.ensures, c.len-long.ensures, c.len-other_long.ensures) in
    let there : c.loop-place.place < length c.args.other.now = omega (arith, c.loop-place-test.true, c.min-place-end.ensures, c.len-long.ensures, c.len-other_long.ensures) in
    c.loop-place.invariant ∙ compare_on _ _ _ _ here there (c.compare.ensures ∙ ap₂ value_cmp c.at.ensures c.at-in-loop-place.ensures) c.in-Equal.is

pub returns-in_default : goal.returns-in_default
returns-in_default c =
    let here : c.loop-place.place < length c.args.self.now = omega (arith, c.loop-place-test.true, c.min-place-end.ensures, c.len-long.ensures, c.len-other_long.ensures) in
    let there : c.loop-place.place < length c.args.other.now = omega (arith, c.loop-place-test.true, c.min-place-end.ensures, c.len-long.ensures, c.len-other_long.ensures) in
    compare_out _ _ _ _ here there (c.compare.ensures ∙ ap₂ value_cmp c.at.ensures c.at-in-loop-place.ensures) c.in_default.not-Equal ∙ sym c.loop-place.invariant

pub returns : goal.returns
returns c =
    let ended : c.loop-place.place ≡ min (length c.args.self.now) (length c.args.other.now) = omega (arith, c.loop-place-test.false, c.loop-place.auto.place-end, c.min-place-end.ensures, c.len-long.ensures, c.len-other_long.ensures) in
    c.cmp.ensures ∙ ap₂ nat_cmp c.len-long.ensures c.len-other_long.ensures ∙ sym (compare_end _ _ _ ended) ∙ sym c.loop-place.invariant
