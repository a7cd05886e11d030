-- The sorted list has the elements of the bag; that it is a function of the bag is `sorted_same` of scope_value.
use Rattle.std.proofs.Common.{◌≡◌, Bool, true, false, cond, List, [], ◌∷◌, refl, ap, ◌∙◌, IsPermutation, Ordering, Less, Equal, Greater}
use Rattle.std.specs.Ordering.{is_gt, ordering_reverse}
use Rattle.std.specs.Cmp.{IsTotalOrder}
use Rattle.std.specs.List.{AllByRecursion}
use Rattle.std.proofs.lemmas.Cmp.{upto}
use Rattle.std.proofs.lemmas.List.Sorted.{IsPermutation-sym}
use Rattle.scope_value.specs.Sorted.{sorted, insert_by}
use Rattle.scope_value.proofs.SortedLemmas.{sorted_moves}

-- the sorted list is of the bag
pub sorted_moved : {X : Type 0} (cmp : X → X → Ordering) (xs : List X) → IsPermutation (sorted cmp xs) xs
sorted_moved cmp xs = IsPermutation-sym xs (sorted cmp xs) (sorted_moves cmp xs)

-- what holds of each element holds of each of the sorted list
pub all_inserted : {X : Type 0} (P : X → Type 0) (cmp : X → X → Ordering) (x : X) (ys : List X) → P x → AllByRecursion P ys → AllByRecursion P (insert_by cmp x ys)
all_inserted P cmp x [] h k = (h, tt)
all_inserted P cmp x (y ∷ ys) h k =
    elim (is_gt (cmp x y)) as (λ b. AllByRecursion P (cond b (y ∷ insert_by cmp x ys) (x ∷ y ∷ ys))) [ true ↦ (k.0, all_inserted P cmp x ys h k.1) | false ↦ (h, k) ]

pub all_sorted : {X : Type 0} (P : X → Type 0) (cmp : X → X → Ordering) (xs : List X) → AllByRecursion P xs → AllByRecursion P (sorted cmp xs)
all_sorted P cmp [] h = tt
all_sorted P cmp (x ∷ xs) h = all_inserted P cmp x (sorted cmp xs) h.0 (all_sorted P cmp xs h.1)

module _ {X : Type 0} {cmp : X → X → Ordering} (total : IsTotalOrder cmp) where
  -- of two elements one is not above the other
  pub either_way : (x y : X) → is_gt (cmp x y) ≡ true → is_gt (cmp y x) ≡ false
  either_way x y h = ap is_gt (total.antisymm y x) ∙ at_reverse (cmp x y) h
    where
      at_reverse : (o : Ordering) → is_gt o ≡ true → is_gt (ordering_reverse o) ≡ false
      at_reverse Less h = absurd (cc)
      at_reverse Equal h = absurd (cc)
      at_reverse Greater h = refl

  -- what is above an element is above each that is not above it
  pub above_too : (x y z : X) → is_gt (cmp x z) ≡ false → is_gt (cmp y z) ≡ true → is_gt (cmp y x) ≡ true
  above_too x y z h k = at (is_gt (cmp y x)) refl
    where
      at : (a : Bool) → is_gt (cmp y x) ≡ a → a ≡ true
      at true e = refl
      at false e = absurd (let g = upto total y x z e h in cc)
