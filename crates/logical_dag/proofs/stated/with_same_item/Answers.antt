use Rattle.std.proofs.Common.{◌≡◌, ◌∙◌, ℕ, None, Some, sym, subst, arith, refl, inl, inr, slice_get}
use Rattle.std.specs.Prelude.{position}
use Rattle.col_sets.specs.Tests.{to_test}
use Rattle.logical_dag.specs.Facts.{is_column}
use Rattle.logical_dag.specs.Known.{IsItem}
use Rattle.logical_dag.proofs.ItemFacts.{item_one, item_is, no_place, first_place, column_before}
use Rattle.logical_dag.proofs.stated.with_same_item.Goals as goal

pub returns-in_default-place_of-clause-equal : goal.returns-in_default-place_of-clause-equal
returns-in_default-place_of-clause-equal c =
    let none : position (is_column c.in-Some.b) c.args.items.now ≡ None = sym c.place_of.ensures ∙ c.in_default-place_of.is in
    let here : IsItem c.args.items.now c.args.j c.in-Some.b = item_is c.args.items.now c.args.j c.in-Some.b c.args.item.now c.requires (c.in-Some.ensures c.in-Some.b ∙ to_test c.in-Some.b c.in-Some.b refl) in
    inl (refl, λ k b d l at h m. no_place c.args.items.now c.in-Some.b none c.args.j here)

pub returns-then-i-j-clause-equal : goal.returns-then-i-j-clause-equal
returns-then-i-j-clause-equal c =
    let first = first_place c.args.items.now c.in-Some.b c.in-Some-place_of.i (sym c.place_of.ensures ∙ c.in-Some-place_of.is) in
    let here : IsItem c.args.items.now c.args.j c.in-Some.b = item_is c.args.items.now c.args.j c.in-Some.b c.args.item.now c.requires (c.in-Some.ensures c.in-Some.b ∙ to_test c.in-Some.b c.in-Some.b refl) in
    inl (
      refl,
      λ k b d l at h m.
          first.1 k (omega arith) (subst (λ (a : ℕ). IsItem c.args.items.now k a) (item_one c.args.items.now c.args.j b c.in-Some.b m here) h),
    )

pub returns-in-Some-column_at-2-clause-equal : goal.returns-in-Some-column_at-2-clause-equal
returns-in-Some-column_at-2-clause-equal c =
    let first = first_place c.args.items.now c.in-Some.b c.in-Some-place_of.i (sym c.place_of.ensures ∙ c.in-Some-place_of.is) in
    let here : IsItem c.args.items.now c.args.j c.in-Some.b = item_is c.args.items.now c.args.j c.in-Some.b c.args.item.now c.requires (c.in-Some.ensures c.in-Some.b ∙ to_test c.in-Some.b c.in-Some.b refl) in
    inr (
      c.in-Some-place_of.i,
      c.in-Some.b,
      c.in-Some-column_at-2.c,
      c.in-Some-column_at.d,
      c.if-i-j.false,
      sym c.column_at-2.ensures ∙ c.in-Some-column_at-2.is,
      sym c.column_at.ensures ∙ c.in-Some-column_at.is,
      first.0,
      here,
      c.with_equal.ensures.equal,
    )

pub returns-in-None-clause-equal : goal.returns-in-None-clause-equal
returns-in-None-clause-equal c =
    let there : slice_get c.args.cols c.args.j ≡ Some c.in-Some-column_at.d = sym c.column_at.ensures ∙ c.in-Some-column_at.is in
    let gone : slice_get c.args.cols c.in-Some-place_of.i ≡ None = sym c.column_at-2.ensures ∙ c.in-None.is in
    inl (refl, λ k b d l at h m. column_before c.args.cols c.in-Some-place_of.i c.args.j c.in-Some-column_at.d c.if-i-j.false there gone)
