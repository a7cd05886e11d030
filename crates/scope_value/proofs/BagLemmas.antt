-- Bags by counts, and by moves.
use Rattle.std.proofs.Common.{◌≡◌, ◌+◌, ◌<◌, Bool, true, false, cond, List, [], ◌∷◌, ◌++◌, refl, sym, ap, ◌∙◌, subst, arith}
use Rattle.std.specs.List.{filter, flat_map, sum_by, count_by}
use Rattle.std.specs.List.Sorted.{IsPermutation}
use Rattle.std.specs.Bool.{Decides}
use Rattle.std.proofs.lemmas.List.Sums.{sum_by-cons, sum_by-append}
use Rattle.std.proofs.lemmas.List.Sorted.{sum_by-IsPermutation, IsPermutation-refl, IsPermutation-sym, IsPermutation-trans, IsPermutation-cons, IsPermutation-middle, IsPermutation-append}

-- each element stands equally often in both lists
abbrev pub IsSameBagBy : {X : Type 0} → (X → X → Bool) → List X → List X → Type 0
IsSameBagBy {X} eq xs ys = (x : X) → count_by (eq x) xs ≡ count_by (eq x) ys

-- moves leave each count
pub bag_from_moves : {X : Type 0} (eq : X → X → Bool) (xs ys : List X) → IsPermutation xs ys → IsSameBagBy eq xs ys
bag_from_moves eq xs ys moved x = sym (sum_by-IsPermutation _ xs ys moved)

module _ {X : Type 0} {eq : X → X → Bool} (decides : (x y : X) → Decides (eq x y) (x ≡ y)) where
  counts_itself : (x : X) (xs : List X) → count_by (eq x) (x ∷ xs) ≡ 1 + count_by (eq x) xs
  counts_itself x xs = sum_by-cons _ x xs ∙ ap (λ b. cond b 1 0 + count_by (eq x) xs) ((decides x x).1 refl)

  -- what is counted stands somewhere
  place_of : (x : X) (ys : List X) → 0 < count_by (eq x) ys → (before : List X) × (after : List X) × (ys ≡ before ++ x ∷ after)
  place_of x [] some = absurd (omega arith)
  place_of x (y ∷ ys) some = go (place_of x ys) (eq x y) refl
    where
      go : (0 < count_by (eq x) ys → (before : List X) × (after : List X) × (ys ≡ before ++ x ∷ after)) → (b : Bool) → eq x y ≡ b
          → (before : List X) × (after : List X) × (y ∷ ys ≡ before ++ x ∷ after)
      go more true e = ([], ys, ap (λ z. z ∷ ys) (sym ((decides x y).0 e)))
      go more false e =
          let none : count_by (eq x) (y ∷ ys) ≡ 0 + count_by (eq x) ys = sum_by-cons _ y ys ∙ ap (λ b. cond b 1 0 + count_by (eq x) ys) e in
          let found = more (omega arith) in
          (y ∷ found.0, found.1, ap (λ zs. y ∷ zs) found.2)

  count_middle : (z : X) (before after : List X) (x : X) → count_by (eq z) (before ++ x ∷ after) ≡ count_by (eq z) (x ∷ (before ++ after))
  count_middle z before after x = bag_from_moves eq _ _ (IsPermutation-middle before x after) z

  -- equal counts are moves
  pub moves_from_bag : (xs ys : List X) → IsSameBagBy eq xs ys → IsPermutation xs ys
  moves_from_bag [] [] same = IsPermutation-refl []
  moves_from_bag [] (y ∷ ys) same = absurd (let more = counts_itself y ys in let none : 0 ≡ count_by (eq y) (y ∷ ys) = same y in omega arith)
  moves_from_bag (x ∷ xs) ys same =
      let more = counts_itself x xs in
      let here = same x in
      let found = place_of x ys (omega arith) in
      let rest : IsSameBagBy eq xs (found.0 ++ found.1)
      = λ z. let a = sum_by-cons (λ w. cond (eq z w) 1 0) x xs in
      let b = sum_by-cons (λ w. cond (eq z w) 1 0) x (found.0 ++ found.1) in
      let c = same z ∙ ap (count_by (eq z)) found.2 ∙ count_middle z found.0 found.1 x in
      omega arith in
      let inner = moves_from_bag xs (found.0 ++ found.1) rest in
      IsPermutation-trans _ _ _ (IsPermutation-cons x xs _ inner)
      (subst (λ (zs : List X). IsPermutation (x ∷ (found.0 ++ found.1)) zs) (sym found.2) (IsPermutation-sym _ _ (IsPermutation-middle found.0 x found.1)))

-- a count over a flat_map is a sum of counts
pub count-flat_map : {X Y : Type 0} (p : Y → Bool) (f : X → List Y) (xs : List X) → count_by p (flat_map f xs) ≡ sum_by (λ x. count_by p (f x)) xs
count-flat_map p f [] = refl
count-flat_map p f (x ∷ xs) = sum_by-append _ (f x) (flat_map f xs) ∙ ap (λ n. count_by p (f x) + n) (count-flat_map p f xs) ∙ sym (sum_by-cons _ x xs)

module _ {X Y : Type 0} {eq : Y → Y → Bool} (decides : (x y : Y) → Decides (eq x y) (x ≡ y)) where
  pub IsPermutation-flat_map : (f : X → List Y) (xs ys : List X) → IsPermutation xs ys → IsPermutation (flat_map f xs) (flat_map f ys)
  IsPermutation-flat_map f xs ys moved =
      moves_from_bag decides _ _ (λ y. count-flat_map (eq y) f xs ∙ sym (sum_by-IsPermutation _ xs ys moved) ∙ sym (count-flat_map (eq y) f ys))

  -- the other way: f does the same to each element, as a bag
  pub IsPermutation-flat_map_each : (f g : X → List Y) → ((x : X) → IsPermutation (f x) (g x)) → (xs : List X) → IsPermutation (flat_map f xs) (flat_map g xs)
  IsPermutation-flat_map_each f g each [] = IsPermutation-refl []
  IsPermutation-flat_map_each f g each (x ∷ xs) = IsPermutation-append _ _ _ _ (each x) (IsPermutation-flat_map_each f g each xs)

filter_is : {X : Type 0} (p : X → Bool) (xs : List X) → filter p xs ≡ flat_map (λ x. cond (p x) (x ∷ []) []) xs
filter_is p [] = refl
filter_is p (x ∷ xs) = go (p x) ∙ ap (λ zs. cond (p x) (x ∷ []) [] ++ zs) (filter_is p xs)
  where
    go : (b : Bool) → cond b (x ∷ filter p xs) (filter p xs) ≡ cond b (x ∷ []) [] ++ filter p xs
    go true = refl
    go false = refl

pub IsPermutation-filter : {X : Type 0} {eq : X → X → Bool} (decides : (x y : X) → Decides (eq x y) (x ≡ y)) (p : X → Bool) (xs ys : List X) → IsPermutation xs ys → IsPermutation (filter p xs) (filter p ys)
IsPermutation-filter decides p xs ys moved =
    let both = IsPermutation-flat_map decides (λ x. cond (p x) (x ∷ []) []) xs ys moved in
    rw (filter_is p xs, filter_is p ys) both
