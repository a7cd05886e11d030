-- Lists made in nested loops, and tests of all elements.
use Rattle.std.proofs.Common.{◌≡◌, Bool, true, false, cond, ◌&&◌, List, [], ◌∷◌, ◌++◌, map, filter, flat_map, refl, sym, ap, ap₂, ◌∙◌, append_assoc, inl, inr, IsPermutation}
use Rattle.std.specs.List.{list_all}
use Rattle.std.proofs.lemmas.List.Sorted.{IsPermutation-refl, IsPermutation-trans, IsPermutation-append_left, IsPermutation-append_right, IsPermutation-append_comm}
use Rattle.col_sets.specs.Tests.{both, and_true}
use Rattle.structural_props.specs.Actions.{In}
use Rattle.list_lemmas.specs.Bags.{same_permuted}

-- ---- two loops change places

-- the two middle lists change places
pub middle_turned : {X : Type 0} (a b c d : List X) → IsPermutation ((a ++ b) ++ (c ++ d)) ((a ++ c) ++ (b ++ d))
middle_turned a b c d =
    rw (append_assoc a b, append_assoc a c) (IsPermutation-append_right a _ _ (rw (← append_assoc b c d, ← append_assoc c b d) (IsPermutation-append_left d _ _ (IsPermutation-append_comm b c))))

pub flat_map_none : {A B : Type 0} (xs : List A) → flat_map (λ (x : A). let none : List B = [] in none) xs ≡ []
flat_map_none [] = refl
flat_map_none (x ∷ xs) = flat_map_none xs

flat_map_both : {A B : Type 0} (f g : A → List B) (xs : List A) → IsPermutation (flat_map f xs ++ flat_map g xs) (flat_map (λ x. f x ++ g x) xs)
flat_map_both f g [] = IsPermutation-refl []
flat_map_both f g (x ∷ xs) =
    IsPermutation-trans _ _ _ (middle_turned (f x) (flat_map f xs) (g x) (flat_map g xs)) (IsPermutation-append_right (f x ++ g x) _ _ (flat_map_both f g xs))

-- two nested loops, the other one outside
pub loops_turned : {A B C : Type 0} (f : A → B → List C) (xs : List A) (ys : List B) → IsPermutation (flat_map (λ x. flat_map (f x) ys) xs) (flat_map (λ y. flat_map (λ x. f x y) xs) ys)
loops_turned f [] ys = same_permuted _ _ (sym (flat_map_none ys))
loops_turned f (x ∷ xs) ys =
    IsPermutation-trans _ _ _ (IsPermutation-append_right (flat_map (f x) ys) _ _ (loops_turned f xs ys)) (flat_map_both (f x) (λ y. flat_map (λ x. f x y) xs) ys)

-- functions that are alike on the elements of a list
pub flat_map_in_same : {A B : Type 0} (f g : A → List B) (xs : List A) → ((x : A) → In x xs → f x ≡ g x) → flat_map f xs ≡ flat_map g xs
flat_map_in_same f g [] h = refl
flat_map_in_same f g (x ∷ xs) h = ap₂ ◌++◌ (h x (inl refl)) (flat_map_in_same f g xs (λ y k. h y (inr k)))

pub map_in_same : {A B : Type 0} (f g : A → B) (xs : List A) → ((x : A) → In x xs → f x ≡ g x) → map f xs ≡ map g xs
map_in_same f g [] h = refl
map_in_same f g (x ∷ xs) h = ap₂ ◌∷◌ (h x (inl refl)) (map_in_same f g xs (λ y k. h y (inr k)))

-- where no element passes, none is kept
pub filter_empty : {X : Type 0} (p : X → Bool) (xs : List X) → ((x : X) → In x xs → p x ≡ false) → filter p xs ≡ []
filter_empty p [] h = refl
filter_empty p (x ∷ xs) h = let e : p x ≡ false = h x (inl refl) in rw e (filter_empty p xs (λ y k. h y (inr k)))

-- ---- loops in one another

-- what is made of the elements that pass
pub kept_loop : {A B : Type 0} (f : A → B) (p : A → Bool) (xs : List A) → map f (filter p xs) ≡ flat_map (λ x. cond (p x) (f x ∷ []) []) xs
kept_loop f p [] = refl
kept_loop f p (x ∷ xs) =
    elim (p x) as (λ b. map f (cond b (x ∷ filter p xs) (filter p xs)) ≡ cond b (f x ∷ []) [] ++ flat_map (λ y. cond (p y) (f y ∷ []) []) xs)
    [ true ↦ ap (λ l. f x ∷ l) (kept_loop f p xs) | false ↦ kept_loop f p xs ]

-- a loop over what another makes
pub loop_over : {A B C : Type 0} (h : B → List C) (k : A → List B) (xs : List A) → flat_map h (flat_map k xs) ≡ flat_map (λ x. flat_map h (k x)) xs
loop_over h k [] = refl
loop_over h k (x ∷ xs) = more (k x) (flat_map k xs) ∙ ap (λ l. flat_map h (k x) ++ l) (loop_over h k xs)
  where
    more : (a b : List _) → flat_map h (a ++ b) ≡ flat_map h a ++ flat_map h b
    more [] b = refl
    more (y ∷ a) b = ap (λ l. h y ++ l) (more a b) ∙ sym (append_assoc (h y) (flat_map h a) (flat_map h b))

-- a loop over what is made of the elements that pass
pub loop_kept : {A B C : Type 0} (h : B → List C) (m : A → B) (p : A → Bool) (xs : List A) → flat_map h (map m (filter p xs)) ≡ flat_map (λ x. cond (p x) (h (m x)) []) xs
loop_kept h m p [] = refl
loop_kept h m p (x ∷ xs) =
    elim (p x) as (λ b. flat_map h (map m (cond b (x ∷ filter p xs) (filter p xs))) ≡ cond b (h (m x)) [] ++ flat_map (λ y. cond (p y) (h (m y)) []) xs)
    [ true ↦ ap (λ l. h (m x) ++ l) (loop_kept h m p xs) | false ↦ loop_kept h m p xs ]

-- what is made of those of a loop that pass
pub kept_over : {A B C : Type 0} (f : B → C) (q : B → Bool) (k : A → List B) (xs : List A) → map f (filter q (flat_map k xs)) ≡ flat_map (λ x. map f (filter q (k x))) xs
kept_over f q k [] = refl
kept_over f q k (x ∷ xs) = more (k x) (flat_map k xs) ∙ ap (λ l. map f (filter q (k x)) ++ l) (kept_over f q k xs)
  where
    more : (a b : List _) → map f (filter q (a ++ b)) ≡ map f (filter q a) ++ map f (filter q b)
    more [] b = refl
    more (y ∷ a) b =
        elim (q y) as (λ c. map f (cond c (y ∷ filter q (a ++ b)) (filter q (a ++ b))) ≡ map f (cond c (y ∷ filter q a) (filter q a)) ++ map f (filter q b))
        [ true ↦ ap (λ l. f y ∷ l) (more a b) | false ↦ more a b ]

-- a map and a filter twice
pub kept_twice : {A B C : Type 0} (f : B → C) (q : B → Bool) (m : A → B) (p : A → Bool) (xs : List A)
    → map f (filter q (map m (filter p xs))) ≡ map (λ x. f (m x)) (filter (λ x. p x && q (m x)) xs)
kept_twice f q m p [] = refl
kept_twice f q m p (x ∷ xs) =
    elim (p x) as (λ b. map f (filter q (map m (cond b (x ∷ filter p xs) (filter p xs)))) ≡ map (λ y. f (m y)) (cond (b && q (m x)) (x ∷ filter (λ y. p y && q (m y)) xs) (filter (λ y. p y && q (m y)) xs))) [
      | true ↦ (elim (q (m x)) as (λ c. map f (cond c (m x ∷ filter q (map m (filter p xs))) (filter q (map m (filter p xs)))) ≡ map (λ y. f (m y)) (cond c (x ∷ filter (λ y. p y && q (m y)) xs) (filter (λ y. p y && q (m y)) xs)))
          [ true ↦ ap (λ l. f (m x) ∷ l) (kept_twice f q m p xs) | false ↦ kept_twice f q m p xs ])
      | false ↦ kept_twice f q m p xs
    ]

-- a test of nothing that a loop sees
pub kept_or_none : {A B : Type 0} (f : A → B) (b : Bool) (q : A → Bool) (xs : List A) → cond b (map f (filter q xs)) [] ≡ map f (filter (λ x. b && q x) xs)
kept_or_none f true q xs = refl
kept_or_none f false q xs = sym (none xs)
  where
    none : (ys : List _) → map f (filter (λ x. false && q x) ys) ≡ []
    none [] = refl
    none (y ∷ ys) = none ys

-- ---- tests of all pairs

pub all_each : {A : Type 0} (p : A → Bool) (xs : List A) → list_all p xs ≡ true → (x : A) → In x xs → p x ≡ true
all_each p [] h x m = absurd m
all_each p (y ∷ xs) h x (inl e) = ap p e ∙ (both (p y) (list_all p xs) h).0
all_each p (y ∷ xs) h x (inr m) = all_each p xs (both (p y) (list_all p xs) h).1 x m

pub each_all : {A : Type 0} (p : A → Bool) (xs : List A) → ((x : A) → In x xs → p x ≡ true) → list_all p xs ≡ true
each_all p [] h = refl
each_all p (y ∷ xs) h = and_true (p y) (list_all p xs) (h y (inl refl)) (each_all p xs (λ x m. h x (inr m)))

-- tests that are alike on the elements
pub all_alike : {A : Type 0} (p q : A → Bool) (xs : List A) → ((x : A) → In x xs → p x ≡ q x) → list_all p xs ≡ list_all q xs
all_alike p q [] h = refl
all_alike p q (y ∷ xs) h = rw (h y (inl refl)) (ap (λ b. q y && b) (all_alike p q xs (λ x m. h x (inr m))))

pub all_both : {A : Type 0} (p : A → Bool) (xs ys : List A) → list_all p (xs ++ ys) ≡ (list_all p xs && list_all p ys)
all_both p [] ys = refl
all_both p (x ∷ xs) ys =
    elim (p x) as (λ b. (b && list_all p (xs ++ ys)) ≡ ((b && list_all p xs) && list_all p ys)) [ true ↦ all_both p xs ys | false ↦ refl ]
