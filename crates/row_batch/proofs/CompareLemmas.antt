-- Rows compared value by value.
use Rattle.std.proofs.Common.{◌≡◌, ◌≢◌, ℕ, zero, suc, ◌+◌, ◌<◌, ◌≤◌, min, List, [], ◌∷◌, length, get_or, drop, refl, ap, ap₂, sym, ◌∙◌, arith, add-one, subst}
use Rattle.std.specs.declared.cmp.Ordering.{Ordering}
use Rattle.std.specs.declared.cmp.Ordering.TheVariants.{Less, Equal, Greater}
use Rattle.std.specs.Ordering.{ordering_then, nat_cmp, MatchOrdering}
use Rattle.std.specs.Cmp.{nat_cmp_is}
use Rattle.std.proofs.Math.Seq.{drop-cons}
use Rattle.std.proofs.lemmas.Option.{unwrap_or-slice_get}
use Rattle.scope_value.specs.Order.{row_cmp, value_cmp}
use Rattle.scope_value.specs.Keys.{column}
use Rattle.scope_value.specs.declared.value.Value.{Value}
use Rattle.scope_value.specs.declared.value.Value.TheVariants as value

-- what is left of a row, from a place on
left_at : (row : List Value) (place : ℕ) → place < length row → drop place row ≡ column place row ∷ drop (place + 1) row
left_at row place there = drop-cons row place value.Null there ∙ ap₂ ◌∷◌ (sym (unwrap_or-slice_get row place value.Null)) (ap (λ n. drop n row) (sym (add-one place)))

-- one value after the other
pub compare_step : (a b : List Value) (place : ℕ) → place < length a → place < length b → row_cmp (drop place a) (drop place b) ≡ ordering_then (value_cmp (column place a) (column place b)) (row_cmp (drop (place + 1) a) (drop (place + 1) b))
compare_step a b place in_a in_b = ap₂ row_cmp (left_at a place in_a) (left_at b place in_b)

-- where these values are equal, the rest decides
pub compare_on : (a b : List Value) (place : ℕ) (order : Ordering) → place < length a → place < length b → order ≡ value_cmp (column place a) (column place b) → order ≡ Equal → row_cmp (drop place a) (drop place b) ≡ row_cmp (drop (place + 1) a) (drop (place + 1) b)
compare_on a b place order in_a in_b is same = compare_step a b place in_a in_b ∙ ap (λ o. ordering_then o (row_cmp (drop (place + 1) a) (drop (place + 1) b))) (sym is ∙ same)

-- and else these values do
pub compare_out : (a b : List Value) (place : ℕ) (order : Ordering) → place < length a → place < length b → order ≡ value_cmp (column place a) (column place b) → order ≢ Equal → order ≡ row_cmp (drop place a) (drop place b)
compare_out a b place order in_a in_b is other =
    first order (row_cmp (drop (place + 1) a) (drop (place + 1) b)) other ∙ ap (λ o. ordering_then o (row_cmp (drop (place + 1) a) (drop (place + 1) b))) is ∙ sym (compare_step a b place in_a in_b)
  where
    first : (o p : Ordering) → o ≢ Equal → o ≡ ordering_then o p
    first Less p h = refl
    first Equal p h = absurd (h refl)
    first Greater p h = refl

next_too : (order : Ordering) (m n : ℕ) → MatchOrdering order (m < n) (m ≡ n) (n < m) → MatchOrdering order (suc m < suc n) (suc m ≡ suc n) (suc n < suc m)
next_too Less m n h = omega (arith, h)
next_too Equal m n h = omega (arith, h)
next_too Greater m n h = omega (arith, h)

-- past one of them, the shorter is the less
ends : (a b : List Value) (place : ℕ) → place ≡ min (length a) (length b) → MatchOrdering (row_cmp (drop place a) (drop place b)) (length a < length b) (length a ≡ length b) (length b < length a)
ends [] [] zero e = refl
ends [] [] (suc place) e = absurd (omega (arith, e))
ends [] (y ∷ b) zero e = omega arith
ends [] (y ∷ b) (suc place) e = absurd (omega (arith, e))
ends (x ∷ a) [] zero e = omega arith
ends (x ∷ a) [] (suc place) e = absurd (omega (arith, e))
ends (x ∷ a) (y ∷ b) zero e = absurd (omega (arith, e))
ends (x ∷ a) (y ∷ b) (suc place) e = next_too (row_cmp (drop place a) (drop place b)) (length a) (length b) (ends a b place (omega (arith, e)))

pub compare_end : (a b : List Value) (place : ℕ) → place ≡ min (length a) (length b) → row_cmp (drop place a) (drop place b) ≡ nat_cmp (length a) (length b)
compare_end a b place e = nat_cmp_is (length a) (length b) (row_cmp (drop place a) (drop place b)) (ends a b place e)
