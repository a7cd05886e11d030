-- What list functions do with a permutation.
use Rattle.std.proofs.Common.{◌≡◌, ℕ, zero, suc, ◌<◌, Bool, true, false, cond, List, [], ◌∷◌, ◌++◌, map, filter, flat_map, length, get_or, set, refl, ap, subst, arith, append_assoc, IsPermutation}
use Rattle.std.specs.List.{swap}
use Rattle.std.proofs.lemmas.List.Sorted.{IsPermutation-refl, IsPermutation-sym, IsPermutation-trans, IsPermutation-keeps, IsPermutation-append, IsPermutation-append_left, IsPermutation-append_right, IsPermutation-append_comm}

-- A relation holds along each permutation if it is reflexive and transitive, and goes under a head and over an exchange of two heads.
module _ {X : Type 0} (R : List X → List X → Type 0) (same : (xs : List X) → R xs xs)
    (skip : (x : X) (xs ys : List X) → R xs ys → R (x ∷ xs) (x ∷ ys))
    (turn : (x y : X) (xs : List X) → R (x ∷ y ∷ xs) (y ∷ x ∷ xs))
    (chain : (xs ys zs : List X) → R xs ys → R ys zs → R xs zs) where
  to_head : (l : List X) (j : ℕ) (x d : X) → j < length l → R (x ∷ l) (get_or l j d ∷ set l j x)
  to_head [] j x d h = absurd (omega arith)
  to_head (y ∷ l) zero x d h = turn x y l
  to_head (y ∷ l) (suc j) x d h =
      chain _ _ _ (turn x y l) (chain _ _ _ (skip y _ _ (to_head l j x d (omega arith))) (turn y (get_or l j d) (set l j x)))

  exchanged : (l : List X) (i j : ℕ) (d : X) → i < length l → j < length l → R l (set (set l i (get_or l j d)) j (get_or l i d))
  exchanged [] i j d p q = absurd (omega arith)
  exchanged (x ∷ l) zero zero d p q = same (x ∷ l)
  exchanged (x ∷ l) zero (suc j) d p q = to_head l j x d (omega arith)
  exchanged (x ∷ l) (suc i) zero d p q = to_head l i x d (omega arith)
  exchanged (x ∷ l) (suc i) (suc j) d p q = skip x _ _ (exchanged l i j d (omega arith) (omega arith))

  swapped : (l : List X) (i j : ℕ) → i < length l → j < length l → R l (swap l i j)
  swapped [] i j p q = same []
  swapped (x ∷ l) i j p q = exchanged (x ∷ l) i j x p q

  pub along_permutation : (xs ys : List X) → IsPermutation xs ys → R xs ys
  along_permutation xs = IsPermutation-keeps xs (R xs) (same xs) (λ l i j p q h. chain xs l _ h (swapped l i j p q))

-- equal lists are one bag
pub same_permuted : {X : Type 0} (xs ys : List X) → xs ≡ ys → IsPermutation xs ys
same_permuted xs ys e = subst (IsPermutation xs) e (IsPermutation-refl xs)

-- lists that are one bag with two lists that are one
pub between : {X : Type 0} (A B C D : List X) → IsPermutation A C → IsPermutation A B → IsPermutation B D → IsPermutation C D
between A B C D p q r = IsPermutation-trans _ _ _ (IsPermutation-sym _ _ p) (IsPermutation-trans _ _ _ q r)

-- list functions give one bag of one bag
pub flat_map_permuted : {A B : Type 0} (f : A → List B) (xs ys : List A) → IsPermutation xs ys → IsPermutation (flat_map f xs) (flat_map f ys)
flat_map_permuted f = along_permutation (λ xs ys. IsPermutation (flat_map f xs) (flat_map f ys))
    (λ xs. IsPermutation-refl _)
    (λ x xs ys h. IsPermutation-append_right (f x) _ _ h)
    (λ x y xs. rw (← append_assoc (f x), ← append_assoc (f y)) (IsPermutation-append_left (flat_map f xs) _ _ (IsPermutation-append_comm (f x) (f y))))
    (λ xs ys zs. IsPermutation-trans _ _ _)

-- functions that give the same bags of each element give one bag of a list
pub flat_map_each : {A B : Type 0} (f g : A → List B) → ((x : A) → IsPermutation (f x) (g x)) → (xs : List A) → IsPermutation (flat_map f xs) (flat_map g xs)
flat_map_each f g each [] = IsPermutation-refl []
flat_map_each f g each (x ∷ xs) = IsPermutation-append _ _ _ _ (each x) (flat_map_each f g each xs)

-- functions that are alike make the same of a list
pub map_each : {A B : Type 0} (f g : A → B) → ((x : A) → f x ≡ g x) → (xs : List A) → map f xs ≡ map g xs
map_each f g each xs = (λ i. map (λ x. each x i) xs)

pub flat_map_same : {A B : Type 0} (f g : A → List B) → ((x : A) → f x ≡ g x) → (xs : List A) → flat_map f xs ≡ flat_map g xs
flat_map_same f g each xs = (λ i. flat_map (λ x. each x i) xs)

filter_as_loop : {A : Type 0} (p : A → Bool) (xs : List A) → filter p xs ≡ flat_map (λ x. cond (p x) (x ∷ []) []) xs
filter_as_loop p [] = refl
filter_as_loop p (x ∷ xs) =
    elim (p x) as (λ b. cond b (x ∷ filter p xs) (filter p xs) ≡ cond b (x ∷ []) [] ++ flat_map (λ y. cond (p y) (y ∷ []) []) xs)
    [ true ↦ ap (λ l. x ∷ l) (filter_as_loop p xs) | false ↦ filter_as_loop p xs ]

pub filter_permuted : {A : Type 0} (p : A → Bool) (xs ys : List A) → IsPermutation xs ys → IsPermutation (filter p xs) (filter p ys)
filter_permuted p xs ys h = rw (filter_as_loop p xs, filter_as_loop p ys) (flat_map_permuted _ xs ys h)

-- two filters change places
pub filters_turned : {A : Type 0} (p q : A → Bool) (xs : List A) → filter p (filter q xs) ≡ filter q (filter p xs)
filters_turned p q [] = refl
filters_turned p q (x ∷ xs) = at (p x) (q x) refl refl (filters_turned p q xs)
  where
    at : (a b : Bool) → p x ≡ a → q x ≡ b → filter p (filter q xs) ≡ filter q (filter p xs) → filter p (filter q (x ∷ xs)) ≡ filter q (filter p (x ∷ xs))
    at true true e f h = simp (e, f) (ap (λ l. x ∷ l) h)
    at true false e f h = simp (e, f) h
    at false true e f h = simp (e, f) h
    at false false e f h = simp (e, f) h

-- a filter twice is that filter
pub filter_again : {A : Type 0} (p : A → Bool) (xs : List A) → filter p (filter p xs) ≡ filter p xs
filter_again p [] = refl
filter_again p (x ∷ xs) = at (p x) refl (filter_again p xs)
  where
    at : (a : Bool) → p x ≡ a → filter p (filter p xs) ≡ filter p xs → filter p (filter p (x ∷ xs)) ≡ filter p (x ∷ xs)
    at true e h = simp e (ap (λ l. x ∷ l) h)
    at false e h = simp e h
