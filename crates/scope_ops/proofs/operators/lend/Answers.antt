use Rattle.std.proofs.Common.{◌≡◌, refl, sym, subst, [], ◌∷◌, true}
use Rattle.std.specs.Prelude.{codes}
use Rattle.scope_ops.proofs.Outer.{are-same, are-more, all-put, outer-joins}
use Rattle.scope_ops.proofs.operators.lend.OwnLists.{own-4}
use Rattle.outer_joins.specs.Combiners.{outer_told}
use Rattle.outer_joins.specs.declared.side.Side.TheVariants.{Left, Right, Full}
use Rattle.scope_ops.proofs.operators.lend.Goals as goal

pub lend_whole-requires : goal.lend_whole-requires
lend_whole-requires g c h =
    let put = all-put c.put_extractor-has_log.result c.put_extractor-has_text.result c.put_processor-has_split.result c.put_reducer-has_top.result c.put_combiner-has_difference.result
    c.put_combiner-has_inner.result c.put_combiner-has_left.result c.put_combiner-has_right.result c.put_combiner-has_full.result h in
    let none = are-same c.new-ops.ensures (refl, refl) in
    let log = are-same (c.put_extractor-has_log.ensures.ok put.makers.0) none in
    let text = are-same (c.put_extractor-has_text.ensures.ok put.makers.1) log in
    let split = are-same (c.put_processor-has_split.ensures.ok put.makers.2) text in
    let top = are-same (c.put_reducer-has_top.ensures.ok put.makers.3) split in
    let left_tells = subst (λ w. (v : (own-4.entry w).0.Denot) → (own-4.entry w).1.told_combiner v ≡ outer_told Left) (sym c.into_dyn_box-7.ensures.0) (λ v. refl) c.into_dyn_box-7.result.value in
    let right_tells = subst (λ w. (v : (own-4.entry w).0.Denot) → (own-4.entry w).1.told_combiner v ≡ outer_told Right) (sym c.into_dyn_box-8.ensures.0) (λ v. refl) c.into_dyn_box-8.result.value in
    let full_tells = subst (λ w. (v : (own-4.entry w).0.Denot) → (own-4.entry w).1.told_combiner v ≡ outer_told Full) (sym c.into_dyn_box-9.ensures.0) (λ v. refl) c.into_dyn_box-9.result.value in
    let difference = are-same (c.put_combiner-has_difference.ensures.ok put.pairings.0) (are-more (codes "MultiSetDifference") refl top) in
    let inner = are-same (c.put_combiner-has_inner.ensures.ok put.pairings.1) (are-more (codes "InnerPairs") refl difference) in
    let left = are-same (c.put_combiner-has_left.ensures.ok put.pairings.2) (are-more (codes "LeftPairs") left_tells inner) in
    let right = are-same (c.put_combiner-has_right.ensures.ok put.pairings.3) (are-more (codes "RightPairs") right_tells left) in
    outer-joins (c.put_combiner-has_full.ensures.ok put.last) (are-more (codes "FullPairs") full_tells right)
