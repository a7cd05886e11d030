-- What std's `parse` reads, as numbers of fields.
use mir.Syntax.{Width}
use mir.Val.{hbits}
use Rattle.std.proofs.Common.{◌≡◌, ◌==◌, ◌&&◌, ◌+◌, ◌^◌, ◌<◌, ◌≤◌, ℕ, ℤ, zero, suc, Bool, true, false, pos, neg_ℤ, List, [], ◌∷◌, length, Option, Some, None, Result, Ok, Err, option_map, refl, sym, ap, ◌∙◌, nat_lt, if◌then◌else◌, arith}
use Rattle.std.specs.Char.{is_ascii_digit}
use Rattle.std.specs.List.{list_all}
use Rattle.std.specs.Result.{OkIff, result_ok}
use Rattle.std.specs.Str.{IsAscii, IsUtf8, all_ascii_digits}
use Rattle.std.specs.Str.Parse.{digits_value, ParsesUnsigned, ParsesSigned}
use Rattle.std.proofs.lemmas.Bool.{eqb-true, eqb-false, lt-ltb, ltb-true}
use Rattle.std.proofs.lemmas.Fmt.{IsAscii-from_digits}
use Rattle.std.proofs.lemmas.Str.{IsUtf8-from_ascii}
use Rattle.std.proofs.lemmas.Str.Parse.{IsNumeralModel, numerals_by_value, tells_all_ascii_digits, parse_digits, parse_signed_minus, parse_signed_plus, parse_signed_plain}
use Rattle.row_codec.specs.Numbers.{number_below, signed_number}

-- ---- digits

all_digits : (ds : List ℕ) → list_all is_ascii_digit ds ≡ all_ascii_digits ds
all_digits [] = refl
all_digits (c ∷ cs) = ap (λ b. is_ascii_digit c && b) (all_digits cs)

numerals : IsNumeralModel (λ ds. list_all is_ascii_digit ds ≡ true) (digits_value 10)
numerals =
    let known = numerals_by_value (λ ds. all_ascii_digits ds ≡ true) tells_all_ascii_digits in
    record { to = λ ds all. known.to ds (sym (all_digits ds) ∙ all); from = λ ds digits. all_digits ds ∙ known.from ds digits; same = known.same }

pub digits_are_text : (ds : List ℕ) → list_all is_ascii_digit ds ≡ true → IsUtf8 ds
digits_are_text ds all = IsUtf8-from_ascii ds (IsAscii-from_digits ds (numerals.to ds all))

number_is : (bound : ℕ) (ds : List ℕ) → list_all is_ascii_digit ds ≡ true → 0 < length ds → digits_value 10 ds < bound
    → number_below bound ds ≡ Some (digits_value 10 ds)
number_is bound ds all some small = rw (lt-ltb 0 (length ds) some, all, lt-ltb (digits_value 10 ds) bound small) refl

no_number : (bound : ℕ) (ds : List ℕ) → ((list_all is_ascii_digit ds ≡ true) × (0 < length ds) × (digits_value 10 ds < bound) → ⊥) → number_below bound ds ≡ None
no_number bound ds none = by (nat_lt 0 (length ds)) (list_all is_ascii_digit ds) (nat_lt (digits_value 10 ds) bound) refl refl refl
  where
    by : (a b d : Bool) → nat_lt 0 (length ds) ≡ a → list_all is_ascii_digit ds ≡ b → nat_lt (digits_value 10 ds) bound ≡ d
        → (if (a && b) && d then Some (digits_value 10 ds) else None) ≡ None
    by true true true e f g = absurd (none (f, ltb-true 0 (length ds) e, ltb-true (digits_value 10 ds) bound g))
    by true true false e f g = refl
    by true false d e f g = refl
    by false b d e f g = refl

pub no_digits : (bound : ℕ) (ds : List ℕ) → list_all is_ascii_digit ds ≡ false → None ≡ number_below bound ds
no_digits bound ds other = sym (no_number bound ds (λ h. let all : list_all is_ascii_digit ds ≡ true = h.0 in cc))

-- digits alone
pub digits_read : {E : Type 0} (ds : List ℕ) (r : Result ℕ E) → ParsesUnsigned 64 10 ds r → list_all is_ascii_digit ds ≡ true → result_ok r ≡ number_below (2 ^ 64) ds
digits_read {E} ds r parsed all = by r (parse_digits numerals 64 ds r parsed all)
  where
    by : (s : Result ℕ E) → OkIff s ((0 < length ds) × (digits_value 10 ds < 2 ^ 64)) (digits_value 10 ds) → result_ok s ≡ number_below (2 ^ 64) ds
    by (Ok n) h = ap (λ (m : ℕ). Some m) h.1 ∙ sym (number_is (2 ^ 64) ds all h.0.0 h.0.1)
    by (Err e) h = sym (no_number (2 ^ 64) ds (λ p. h (p.1, p.2)))

-- ---- with a sign or none

read_as : {E : Type 0} (f : ℕ → ℤ) (bound : ℕ) (ds : List ℕ) (r : Result ℤ E)
    → OkIff r ((list_all is_ascii_digit ds ≡ true) × (0 < length ds) × (digits_value 10 ds < bound)) (f (digits_value 10 ds)) → result_ok r ≡ option_map f (number_below bound ds)
read_as f bound ds (Ok z) h = ap (λ (x : ℤ). Some x) h.1 ∙ sym (ap (option_map f) (number_is bound ds h.0.0 h.0.1 h.0.2))
read_as f bound ds (Err e) h = sym (ap (option_map f) (no_number bound ds h))

read_up_to : {E : Type 0} (f : ℕ → ℤ) (most : ℕ) (ds : List ℕ) (r : Result ℤ E)
    → OkIff r ((list_all is_ascii_digit ds ≡ true) × (0 < length ds) × (digits_value 10 ds ≤ most)) (f (digits_value 10 ds)) → result_ok r ≡ option_map f (number_below (most + 1) ds)
read_up_to f most ds (Ok z) h =
    let le : digits_value 10 ds ≤ most = h.0.2 in
    let lt : digits_value 10 ds < most + 1 = omega arith in
    ap (λ (x : ℤ). Some x) h.1 ∙ sym (ap (option_map f) (number_is (most + 1) ds h.0.0 h.0.1 lt))
read_up_to f most ds (Err e) h =
    sym (ap (option_map f) (no_number (most + 1) ds (λ p.
    let lt : digits_value 10 ds < most + 1 = p.2 in
    let le : digits_value 10 ds ≤ most = omega arith in h (p.0, p.1, le))))

refused : {X E : Type 0} (r : Result X E) (P : Type 0) (v : X) → OkIff r P v → (P → ⊥) → result_ok r ≡ None
refused (Ok x) P v h none = absurd (none h.0)
refused (Err e) P v h none = refl

pub signed_read : {E : Type 0} (w : Width) (bs : List ℕ) (r : Result ℤ E) → ParsesSigned w 10 bs r → result_ok r ≡ signed_number (2 ^ hbits w) bs
signed_read w [] r parsed =
    refused r _ _ (parse_signed_plain numerals w [] r parsed (λ e. omega arith) (λ e. omega arith)) (λ h. let some : 0 < 0 = h.1 in omega arith)
signed_read w (b ∷ rest) r parsed = by (b == 45) (b == 43) refl refl
  where
    by : (t u : Bool) → (b == 45) ≡ t → (b == 43) ≡ u
        → result_ok r
        ≡ (if t then option_map (λ n. neg_ℤ (pos n)) (number_below (2 ^ hbits w + 1) rest)
        else if u then option_map pos (number_below (2 ^ hbits w) rest)
        else option_map pos (number_below (2 ^ hbits w) (b ∷ rest)))
    by true u e f = read_up_to (λ n. neg_ℤ (pos n)) (2 ^ hbits w) rest r (parse_signed_minus numerals w (b ∷ rest) r parsed (eqb-true b 45 e))
    by false true e f = read_as pos (2 ^ hbits w) rest r (parse_signed_plus numerals w (b ∷ rest) r parsed (eqb-true b 43 f))
    by false false e f = read_as pos (2 ^ hbits w) (b ∷ rest) r (parse_signed_plain numerals w (b ∷ rest) r parsed (eqb-false b 43 f) (eqb-false b 45 e))

ascii-cons : (b : ℕ) (rest : List ℕ) → b < 128 → IsAscii rest → IsAscii (b ∷ rest)
ascii-cons b rest low h zero = low
ascii-cons b rest low h (suc i) = h i

-- what is no text is no number
pub no_signed : (limit : ℕ) (bs : List ℕ) → (IsUtf8 bs → ⊥) → None ≡ signed_number limit bs
no_signed limit [] none = refl
no_signed limit (b ∷ rest) none = sym (by (b == 45) (b == 43) refl refl)
  where
    behind : (bound : ℕ) → b < 128 → number_below bound rest ≡ None
    behind bound low =
        no_number bound rest (λ h. none (IsUtf8-from_ascii (b ∷ rest) (ascii-cons b rest low (IsAscii-from_digits rest (numerals.to rest h.0)))))

    by : (t u : Bool) → (b == 45) ≡ t → (b == 43) ≡ u
        → (if t then option_map (λ n. neg_ℤ (pos n)) (number_below (limit + 1) rest)
        else if u then option_map pos (number_below limit rest)
        else option_map pos (number_below limit (b ∷ rest))) ≡ None
    by true u e f = let is = eqb-true b 45 e in ap (option_map (λ n. neg_ℤ (pos n))) (behind (limit + 1) (omega arith))
    by false true e f = let is = eqb-true b 43 f in ap (option_map pos) (behind limit (omega arith))
    by false false e f = ap (option_map pos) (no_number limit (b ∷ rest) (λ h. none (digits_are_text (b ∷ rest) h.0)))
