-- The counts of a map after a write at one row.
use Rattle.std.proofs.Common.{◌≡◌, ℕ, ◌+◌, ◌-◌, Bool, true, false, List, cond, unwrap_or, Some, Option, refl, ap, ◌∙◌, arith}
use Rattle.std.specs.Bool.{if◌then◌else◌}
use Rattle.std.specs.HashMap.{get, HashMap}
use Rattle.scope_value.specs.declared.value.Value.{Value}
use Rattle.scope_value.specs.Order.{row_eq-decides}
use Rattle.scope_shipped.specs.MultiSetDifference.{same_row}
use Rattle.scope_shipped.specs.RowCounts.{count_in}

module _ {S : Type 0} (m n : HashMap (List Value) ℕ S) (k q : List Value) (w : ℕ) where
  same-count : same_row k q ≡ true → count_in m k ≡ count_in m q
  same-count e = ap (count_in m) ((row_eq-decides k q).0 e)

  -- one more was written at k
  pub count-more : ((p : List Value) → get same_row n p ≡ cond (same_row k p) (Some w) (get same_row m p)) → w ≡ count_in m k + 1
      → count_in n q ≡ count_in m q + (if same_row k q then 1 else 0)
  count-more wrote is = by (same_row k q) refl (ap (λ (o : Option ℕ). unwrap_or o 0) (wrote q))
    where
      by : (b : Bool) → same_row k q ≡ b → count_in n q ≡ unwrap_or (cond b (Some w) (get same_row m q)) 0 → count_in n q ≡ count_in m q + (if b then 1 else 0)
      by true e new = omega (arith, same-count e)
      by false e new = omega arith

  -- one less was written at k
  pub count-less : ((p : List Value) → get same_row n p ≡ cond (same_row k p) (Some w) (get same_row m p)) → w ≡ count_in m k - 1
      → count_in n q ≡ count_in m q - (if same_row k q then 1 else 0)
  count-less wrote is = by (same_row k q) refl (ap (λ (o : Option ℕ). unwrap_or o 0) (wrote q))
    where
      by : (b : Bool) → same_row k q ≡ b → count_in n q ≡ unwrap_or (cond b (Some w) (get same_row m q)) 0 → count_in n q ≡ count_in m q - (if b then 1 else 0)
      by true e new = omega (arith, same-count e)
      by false e new = omega arith

  -- there was none at k
  pub count-none : n ≡ m → count_in m k ≡ 0 → count_in n q ≡ count_in m q - (if same_row k q then 1 else 0)
  count-none is none = ap (λ (x : HashMap (List Value) ℕ S). count_in x q) is ∙ by (same_row k q) refl
    where
      by : (b : Bool) → same_row k q ≡ b → count_in m q ≡ count_in m q - (if b then 1 else 0)
      by true e = omega (arith, same-count e)
      by false e = omega arith

-- a first one was written at k, where there was none
pub count-first : {S : Type 0} (m base n : HashMap (List Value) ℕ S) (key k q : List Value)
    → ((p : List Value) → get same_row n p ≡ cond (same_row key p) (Some 1) (get same_row base p))
    → base ≡ m → key ≡ k → count_in m k ≡ 0
    → count_in n q ≡ count_in m q + (if same_row k q then 1 else 0)
count-first {S} m base n key k q wrote old same none =
    count-more m n k q 1
    (λ p. wrote p
    ∙ ap (λ (x : List Value). cond (same_row x p) (Some 1) (get same_row base p)) same
    ∙ ap (λ (x : HashMap (List Value) ℕ S). cond (same_row k p) (Some 1) (get same_row x p)) old)
    (omega arith)
