-- One step through left, with the counts of right's rows that no left row took so far.
use Rattle.std.proofs.Common.{◌≡◌, ℕ, ◌+◌, ◌-◌, ◌<◌, ◌≤◌, Bool, true, false, List, ◌∷◌, length, get_or, drop, take, nat_lt, nat_le, cond, refl, ap, sym, ◌∙◌, arith}
use Rattle.std.specs.Cmp.{IsEquivalence}
use Rattle.std.specs.Bool.{if◌then◌else◌}
use Rattle.std.proofs.lemmas.Cmp.{eq_by_cmp_equiv}
use Rattle.std.proofs.lemmas.Bool.{le-leb, lt-leb, ltb-true, ltb-false}
use Rattle.std.proofs.lemmas.List.{drop_more, take-append-drop}
use Rattle.std.proofs.lemmas.List.Sums.{count_by_more_yes, count_by_more_no, sum_by-append}
use Rattle.scope_value.specs.declared.value.Value.{Value}
use Rattle.scope_value.specs.Order.{row_cmp_total}
use Rattle.scope_shipped.specs.MultiSetDifference.{same_row, copies, last_copies}

same_row_laws : IsEquivalence same_row
same_row_laws = eq_by_cmp_equiv row_cmp_total

-- the copies in the first rows and those in the rest
copies-split : (q : List Value) (rows : List (List Value)) (i : ℕ) → copies q rows ≡ copies q (take i rows) + copies q (drop i rows)
copies-split q rows i =
    ap (copies q) (sym (take-append-drop i rows)) ∙ sum_by-append (λ x. cond (same_row q x) 1 0) (take i rows) (drop i rows)

-- one row more
copies-more : (q r : List Value) (rows : List (List Value)) (i : ℕ) → i < length rows → r ≡ get_or rows i r
    → copies q (take (i + 1) rows) ≡ copies q (take i rows) + (if same_row q r then 1 else 0)
copies-more q r rows i lt is = by (same_row q r) refl
  where
    by : (b : Bool) → same_row q r ≡ b → copies q (take (i + 1) rows) ≡ copies q (take i rows) + (if b then 1 else 0)
    by true e = count_by_more_yes (same_row q) rows i r lt (ap (same_row q) (sym is) ∙ e)
    by false e = omega (arith, count_by_more_no (same_row q) rows i r lt (ap (same_row q) (sym is) ∙ e))

-- a count that is one more for each row that was seen
pub count-added : (q r : List Value) (rows : List (List Value)) (i before after : ℕ) → i < length rows → r ≡ get_or rows i r
    → before ≡ copies q (take i rows) → after ≡ before + (if same_row r q then 1 else 0) → after ≡ copies q (take (i + 1) rows)
count-added q r rows i before after lt is old new =
    new ∙ ap (λ n. n + (if same_row r q then 1 else 0)) old
    ∙ ap (λ b. copies q (take i rows) + (if b then 1 else 0)) (same_row_laws.symm r q)
    ∙ sym (copies-more q r rows i lt is)

-- a count that is one less, down to 0, for each row that was met
pub count-taken : (q r : List Value) (left right : List (List Value)) (i before after : ℕ) → i < length left → r ≡ get_or left i r
    → before ≡ copies q right - copies q (take i left) → after ≡ before - (if same_row r q then 1 else 0)
    → after ≡ copies q right - copies q (take (i + 1) left)
count-taken q r left right i before after lt is old new =
    by (same_row q r) (sym (same_row_laws.symm r q)) (copies-more q r left i lt is)
  where
    by : (b : Bool) → b ≡ same_row r q → copies q (take (i + 1) left) ≡ copies q (take i left) + (if b then 1 else 0)
        → after ≡ copies q right - copies q (take (i + 1) left)
    by true e more = omega (arith, rw (← e) at new)
    by false e more = omega (arith, rw (← e) at new)

module _ (left right : List (List Value)) (i : ℕ) (r : List Value) (within : i < length left) (is : r ≡ get_or left i r) where
  rest : drop i left ≡ r ∷ drop (i + 1) left
  rest = drop_more left i r within ∙ ap (λ (x : List Value). x ∷ drop (i + 1) left) (sym is)

  -- how often the row stands from here on
  later : copies r left ≡ copies r (take i left) + copies r (r ∷ drop (i + 1) left)
  later = copies-split r left i ∙ ap (λ (l : List (List Value)). copies r (take i left) + copies r l) rest

  some-later : 1 ≤ copies r (r ∷ drop (i + 1) left)
  some-later =
      let more : copies r (take (i + 1) left) ≡ copies r (take i left) + 1 =
      copies-more r r left i within is ∙ ap (λ b. copies r (take i left) + (if b then 1 else 0)) (same_row_laws.refl r) in
      let split : copies r left ≡ copies r (take (i + 1) left) + copies r (drop (i + 1) left) = copies-split r left (i + 1) in
      let whole : copies r left ≡ copies r (take i left) + copies r (r ∷ drop (i + 1) left) = later in
      omega arith

  -- none of right's copies is left over, so the row is among the last
  pub row-kept : false ≡ nat_lt 0 (copies r right - copies r (take i left))
      → last_copies left right (drop i left) ≡ r ∷ last_copies left right (drop (i + 1) left)
  row-kept none =
      let whole : copies r left ≡ copies r (take i left) + copies r (r ∷ drop (i + 1) left) = later in
      let le : copies r right - copies r (take i left) ≤ 0 = ltb-false 0 (copies r right - copies r (take i left)) (sym none) in
      let last : nat_le (copies r (r ∷ drop (i + 1) left)) (copies r left - copies r right) ≡ true = le-leb _ _ (omega arith) in
      ap (last_copies left right) rest
      ∙ ap (λ b. if b then r ∷ last_copies left right (drop (i + 1) left) else last_copies left right (drop (i + 1) left)) last

  -- one of right's copies is left over, so the row is not
  pub row-dropped : true ≡ nat_lt 0 (copies r right - copies r (take i left))
      → last_copies left right (drop i left) ≡ last_copies left right (drop (i + 1) left)
  row-dropped some =
      let whole : copies r left ≡ copies r (take i left) + copies r (r ∷ drop (i + 1) left) = later in
      let one : 1 ≤ copies r (r ∷ drop (i + 1) left) = some-later in
      let lt : 0 < copies r right - copies r (take i left) = ltb-true 0 (copies r right - copies r (take i left)) (sym some) in
      let last : nat_le (copies r (r ∷ drop (i + 1) left)) (copies r left - copies r right) ≡ false = lt-leb _ _ (omega arith) in
      ap (last_copies left right) rest
      ∙ ap (λ b. if b then r ∷ last_copies left right (drop (i + 1) left) else last_copies left right (drop (i + 1) left)) last
