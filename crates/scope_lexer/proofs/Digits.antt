-- Digits, one after another, and the value that they write.
use Rattle.std.proofs.Common.{◌≡◌, ◌+◌, ◌-◌, ◌*◌, ◌<◌, ◌≤◌, ℕ, List, [], ◌∷◌, length, get_or, take, Bool, true, false, None, refl, arith, nat_le}
use Rattle.std.specs.List.{list_all, prefix_len}
use Rattle.std.specs.Char.{digit_value, is_ascii_digit}
use Rattle.std.specs.Str.Parse.{digits_value}
use Rattle.std.proofs.lemmas.Bool.Decides.{nat_tests}
use Rattle.std.proofs.lemmas.Int.Digits.{digits_value_more}
use Rattle.std.proofs.lemmas.List.Sums.{AllPass-from_list_all}
use Rattle.std.proofs.Math.Numerals.{one-add}
use Rattle.std.proofs.lemmas.Str.{digit_value_digit}
use Rattle.std.proofs.lemmas.Str.Parse.{digits_value-take-le}
use Rattle.scope_lexer.specs.Begins.{max_number, small_value}

pub digit_range : (c : ℕ) → is_ascii_digit c ≡ true → (48 ≤ c) × (c ≤ 57)
digit_range c is = (grind (arith, nat_tests), grind (arith, nat_tests))

digit_of : (c : ℕ) → is_ascii_digit c ≡ true → digit_value c ≡ c - 48
digit_of c is =
    let r = digit_range c is in
    let d = digit_value_digit c r in
    omega arith

-- the digit at a place
pub digit_at : (ds : List ℕ) (i : ℕ) → list_all is_ascii_digit ds ≡ true → i < length ds → digit_value (get_or ds i 0) ≡ get_or ds i 0 - 48
digit_at ds i all lt = digit_of (get_or ds i 0) (AllPass-from_list_all is_ascii_digit ds all i 0 lt)

-- a front of the digits is too large already
pub too_large : (ds : List ℕ) (i value : ℕ) → list_all is_ascii_digit ds ≡ true → i < length ds → value ≡ digits_value 10 (take i ds)
    → max_number < value * 10 + (get_or ds i 0 - 48) → small_value ds ≡ None
too_large ds i value all lt e most =
    let digit = digit_at ds i all lt in
    let more = digits_value_more 10 ds i lt in
    let front = digits_value-take-le 10 ds (i + 1) (omega arith) in
    let past : max_number < digits_value 10 ds = omega arith in
    let no : nat_le (digits_value 10 ds) max_number ≡ false = grind (arith, nat_tests) in
    rw no refl

-- one more digit
pub one_more : (ds : List ℕ) (i value : ℕ) → list_all is_ascii_digit ds ≡ true → i < length ds → value ≡ digits_value 10 (take i ds)
    → value * 10 + (get_or ds i 0 - 48) ≡ digits_value 10 (take (i + 1) ds)
one_more ds i value all lt e =
    let digit = digit_at ds i all lt in
    rw (digits_value_more 10 ds i lt) (omega arith)

passes-cons : (p : ℕ → Bool) (x : ℕ) (xs : List ℕ) (b : Bool) → p x ≡ b → list_all p (take (prefix_len p xs) xs) ≡ true
    → list_all p (take (prefix_len p (x ∷ xs)) (x ∷ xs)) ≡ true
passes-cons p x xs true e h = rw (e, one-add) (rw e h)
passes-cons p x xs false e h = rw e refl

-- the longest front that passes a test passes it
pub front_passes : (p : ℕ → Bool) (xs : List ℕ) → list_all p (take (prefix_len p xs) xs) ≡ true
front_passes p [] = refl
front_passes p (x ∷ xs) = passes-cons p x xs (p x) refl (front_passes p xs)
