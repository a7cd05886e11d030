-- Keys: lists of one to four columns, kept in four places.
use Rattle.std.proofs.Common.{◌≡◌, ℕ, zero, suc, ◌+◌, ◌-◌, ◌<◌, ◌≤◌, List, [], ◌∷◌, ◌++◌, length, take, refl, sym, subst, arith, length-take, length-set}
use Rattle.std.specs.Prelude.{replicate, slice_set}
use Rattle.std.specs.List.{All}
use Rattle.std.proofs.lemmas.List.{take_more_set}
use Rattle.std.proofs.lemmas.List.Elements.{All-nil, All-cons, All-push}

-- the number of a column
abbrev pub IsBelow : ℕ → Type 0
IsBelow c = c < 128

-- the number of a column, with something beside it
abbrev pub HasColumn : {X : Type 0} → ℕ × X → Type 0
HasColumn k = k.0 < 128

-- one to four things that each are right
abbrev pub IsKeyOf : {X : Type 0} → (X → Type 0) → List X → Type 0
IsKeyOf P xs = (0 < length xs) × ((length xs ≤ 4) × All P xs)

-- one to four columns
abbrev pub IsKey : List ℕ → Type 0
IsKey = IsKeyOf IsBelow

-- one to four columns, with something beside each
abbrev pub IsOrderKey : {X : Type 0} → List (ℕ × X) → Type 0
IsOrderKey = IsKeyOf HasColumn

-- the list with copies of a blank to fill four places
abbrev pub padded : {X : Type 0} → X → List X → List X
padded blank xs = xs ++ replicate (4 - length xs) blank

-- the first n of four places are used and right, and the others are blank
pub record IsFilled {X : Type 0} (P : X → Type 0) (blank : X) (n : ℕ) (places : List X) : Type 0 where
  pub some : 0 < n
  pub room : n ≤ 4
  pub four : length places ≡ 4
  pub blanks : places ≡ padded blank (take n places)
  pub right : All P (take n places)

-- as many are used as the list is long
pub length-filled : {X : Type 0} (P : X → Type 0) (blank : X) (n : ℕ) (places : List X) → IsFilled P blank n places → length (take n places) ≡ n
length-filled P blank n places h = let l : n ≤ length places = omega (arith, h.four, h.room) in omega (arith, length-take n places)

-- what is used is a key
pub filled_key : {X : Type 0} (P : X → Type 0) (blank : X) (n : ℕ) (places : List X) → IsFilled P blank n places → IsKeyOf P (take n places)
filled_key P blank n places h =
    let e = length-filled P blank n places h in
    (omega (arith, h.some), (omega (arith, h.room), h.right))

-- one place is used
pub filled_new : {X : Type 0} (P : X → Type 0) (blank x : X) → P x → IsFilled P blank 1 (x ∷ blank ∷ blank ∷ blank ∷ [])
filled_new P blank x p = record { some = omega arith; room = omega arith; four = refl; blanks = refl; right = All-cons P x [] p (All-nil P) }

-- one place more is used
pub filled_push : {X : Type 0} (P : X → Type 0) (blank x : X) (n : ℕ) (places : List X) → IsFilled P blank n places → n < 4 → P x → IsFilled P blank (n + 1) (slice_set places n x)
filled_push {X = X} P blank x n places h l p = record {
  some = omega arith;
  room = omega arith;
  four = omega (arith, h.four, length-set places n x);
  blanks = go n places h.some l h.four h.blanks;
  right = subst (All P) (sym (take_more_set places n x (omega (arith, h.four)))) (All-push P (take n places) x h.right p);
}
  where
    go : (n : ℕ) (places : List X) → 0 < n → n < 4 → length places ≡ 4 → places ≡ padded blank (take n places) → slice_set places n x ≡ padded blank (take (n + 1) (slice_set places n x))
    go n [] s l f b = absurd (omega arith)
    go n (p ∷ []) s l f b = absurd (omega arith)
    go n (p ∷ q ∷ []) s l f b = absurd (omega arith)
    go n (p ∷ q ∷ r ∷ []) s l f b = absurd (omega arith)
    go zero (p ∷ q ∷ r ∷ t ∷ []) s l f b = absurd (omega arith)
    go (suc zero) (p ∷ q ∷ r ∷ t ∷ []) s l f b = (cc)
    go (suc (suc zero)) (p ∷ q ∷ r ∷ t ∷ []) s l f b = (cc)
    go (suc (suc (suc zero))) (p ∷ q ∷ r ∷ t ∷ []) s l f b = (cc)
    go (suc (suc (suc (suc n)))) (p ∷ q ∷ r ∷ t ∷ []) s l f b = absurd (omega arith)
    go n (p ∷ q ∷ r ∷ t ∷ u ∷ more) s l f b = absurd (omega arith)
