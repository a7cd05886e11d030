-- The first elements of a bag, at once and from a part that holds them.
use Rattle.std.proofs.Common.{◌≡◌, ℕ, zero, suc, Bool, true, false, cond, List, [], ◌∷◌, ◌++◌, take, drop, refl, sym, ap, subst, ◌∙◌, arith, append_assoc, take-append-drop, IsPermutation, Ordering, Equal}
use Rattle.std.specs.Ordering.{is_gt, eq_by_cmp}
use Rattle.std.specs.Cmp.{IsTotalOrder}
use Rattle.std.specs.List.{AllByRecursion}
use Rattle.std.proofs.lemmas.List.Sorted.{IsPermutation-refl, IsPermutation-trans, IsPermutation-sym, IsPermutation-cons, IsPermutation-middle, IsPermutation-append_left, length_permutation}
use Rattle.scope_value.specs.Order.{eq_by_cmp-decides}
use Rattle.scope_value.specs.Sorted.{sorted, insert_by, IsInOrder}
use Rattle.list_lemmas.specs.Bags.{along_permutation, same_permuted}
use Rattle.scope_value.proofs.SortedLemmas.{sorted_rises, sorted_same}
use Rattle.list_lemmas.specs.Sorting.{all_sorted, sorted_moved}

-- what holds of each element of two lists
all_append : {X : Type 0} (P : X → Type 0) (A B : List X) → AllByRecursion P A → AllByRecursion P B → AllByRecursion P (A ++ B)
all_append P [] B h k = k
all_append P (x ∷ A) B h k = (h.0, all_append P A B h.1 k)

all_first : {X : Type 0} (P : X → Type 0) (A B : List X) → AllByRecursion P (A ++ B) → AllByRecursion P A
all_first P [] B h = tt
all_first P (x ∷ A) B h = (h.0, all_first P A B h.1)

all_second : {X : Type 0} (P : X → Type 0) (A B : List X) → AllByRecursion P (A ++ B) → AllByRecursion P B
all_second P [] B h = h
all_second P (x ∷ A) B h = all_second P A B h.1

-- what holds of each element does so in any order
pub all_permuted : {X : Type 0} (P : X → Type 0) (A B : List X) → IsPermutation A B → AllByRecursion P A → AllByRecursion P B
all_permuted P =
    along_permutation (λ A B. AllByRecursion P A → AllByRecursion P B) (λ A h. h) (λ x A B f h. (h.0, f h.1)) (λ x y A h. (h.1.0, (h.0, h.1.1))) (λ A B C f g h. g (f h))

-- a list that is one bag with no elements has none
empty : {X : Type 0} (A B : List X) → IsPermutation [] (A ++ B) → A ≡ []
empty [] B h = refl
empty (a ∷ A) B h = absurd (let e = length_permutation _ _ h in omega arith)

-- the first elements of the first elements and more are these, where the list is long enough or there is no more
first_again : {X : Type 0} (n : ℕ) (S more : List X) → (drop n S ≡ [] → more ≡ []) → take n (take n S ++ more) ≡ take n S
first_again zero S more h = refl
first_again (suc n) [] more h = rw (h refl)
first_again (suc n) (s ∷ S) more h = ap (λ l. s ∷ l) (first_again n S more h)

module _ {X : Type 0} {cmp : X → X → Ordering} (total : IsTotalOrder cmp) (exact : (x y : X) → cmp x y ≡ Equal → x ≡ y) where
  -- ---- the least elements

  -- no element of the list is below r
  abbrev IsLeast : X → List X → Type 0
  IsLeast r A = AllByRecursion (λ s. is_gt (cmp r s) ≡ false) A

  -- a least element comes first
  inserted_least : (r : X) (A : List X) → IsLeast r A → insert_by cmp r A ≡ r ∷ A
  inserted_least r [] h = refl
  inserted_least r (s ∷ A) h = let e : is_gt (cmp r s) ≡ false = h.0 in simp e

  -- ---- an element taken from both sides

  -- the list without the first place of an element
  abbrev without : X → List X → List X
  without r [] = []
  without r (s ∷ A) = cond (eq_by_cmp cmp r s) A (s ∷ without r A)

  -- one bag, and one bag without r
  abbrev Alike : X → List X → List X → Type 0
  Alike r A B = IsPermutation A B × IsPermutation (without r A) (without r B)

  alike_later : (r x : X) (A B : List X) → Alike r A B → Alike r (x ∷ A) (x ∷ B)
  alike_later r x A B h = (
    IsPermutation-cons x A B h.0,
    elim (eq_by_cmp cmp r x) as (λ b. IsPermutation (cond b A (x ∷ without r A)) (cond b B (x ∷ without r B))) [ true ↦ h.0 | false ↦ IsPermutation-cons x _ _ h.1 ],
  )

  alike_turned : (r x y : X) (A : List X) → Alike r (x ∷ y ∷ A) (y ∷ x ∷ A)
  alike_turned r x y A = (IsPermutation-middle (x ∷ []) y A, at (eq_by_cmp cmp r x) (eq_by_cmp cmp r y) refl refl)
    where
      same : (s : X) → eq_by_cmp cmp r s ≡ true → r ≡ s
      same s = (eq_by_cmp-decides total exact r s).0

      at : (a b : Bool) → eq_by_cmp cmp r x ≡ a → eq_by_cmp cmp r y ≡ b → IsPermutation (without r (x ∷ y ∷ A)) (without r (y ∷ x ∷ A))
      at true true e f = simp (e, f) (same_permuted _ _ (ap (λ z. z ∷ A) (sym (same y f) ∙ same x e)))
      at true false e f = simp (e, f) (IsPermutation-refl _)
      at false true e f = simp (e, f) (IsPermutation-refl _)
      at false false e f = simp (e, f) (IsPermutation-middle (x ∷ []) y _)

  without_permuted : (r : X) (A B : List X) → IsPermutation A B → Alike r A B
  without_permuted r = along_permutation (Alike r) (λ A. (IsPermutation-refl _, IsPermutation-refl _)) (alike_later r) (alike_turned r)
      (λ A B C p q. (IsPermutation-trans _ _ _ p.0 q.0, IsPermutation-trans _ _ _ p.1 q.1))

  one_less : (r : X) (A B : List X) → IsPermutation (r ∷ A) (r ∷ B) → IsPermutation A B
  one_less r A B h =
      let e : eq_by_cmp cmp r r ≡ true = (eq_by_cmp-decides total exact r r).1 refl in
      let less : IsPermutation (cond (eq_by_cmp cmp r r) A (r ∷ without r A)) (cond (eq_by_cmp cmp r r) B (r ∷ without r B)) = (without_permuted r _ _ h).1 in
      simp e at less

  -- what is left where the same is taken from two lists that are one bag
  pub rest_same : (T A B : List X) → IsPermutation (T ++ A) (T ++ B) → IsPermutation A B
  rest_same [] A B h = h
  rest_same (t ∷ T) A B h = rest_same T A B (one_less t _ _ h)

  -- ---- the first elements from a part that holds them

  -- elements that come first in a bag come first in a part that has them
  in_front : (T R more out : List X) → IsInOrder cmp (T ++ R) → IsPermutation R (more ++ out) → sorted cmp (T ++ more) ≡ T ++ sorted cmp more
  in_front [] R more out up h = refl
  in_front (t ∷ T) R more out up h =
      let P : X → Type 0 = λ s. is_gt (cmp t s) ≡ false in
      let low : IsLeast t more = all_first P more out (all_permuted P _ _ h (all_second P T R up.0)) in
      ap (insert_by cmp t) (in_front T R more out up.1 h) ∙ inserted_least t _ (all_append P T (sorted cmp more) (all_first P T R up.0) (all_sorted P cmp more low))

  -- any part of a bag that holds its first elements has the same first elements
  pub first_of_part : (n : ℕ) (A B out rest : List X) → IsPermutation (B ++ out) A → IsPermutation (take n (sorted cmp A) ++ rest) B → take n (sorted cmp B) ≡ take n (sorted cmp A)
  first_of_part n A B out rest whole holds =
      let S = sorted cmp A in
      let T = take n S in
      let R = drop n S in
      let halves : T ++ R ≡ S = take-append-drop n S in
      let made : IsPermutation (T ++ (rest ++ out)) (T ++ R) =
      IsPermutation-trans _ _ _ (rw (← append_assoc T rest out) (IsPermutation-append_left out _ _ holds))
      (IsPermutation-trans _ _ _ whole (IsPermutation-trans _ _ _ (IsPermutation-sym _ _ (sorted_moved cmp A)) (same_permuted _ _ (sym halves)))) in
      let later = IsPermutation-sym _ _ (rest_same T (rest ++ out) R made) in
      let front = in_front T R rest out (subst (IsInOrder cmp) (sym halves) (sorted_rises total A)) later in
      ap (take n) (sym (sorted_same total exact _ _ holds) ∙ front)
      ∙ first_again n S (sorted cmp rest) (λ e. ap (sorted cmp) (empty rest out (subst (λ (l : List X). IsPermutation l (rest ++ out)) e later)))
