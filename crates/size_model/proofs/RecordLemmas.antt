-- A record by its fields, and the bound of a count.
use Rattle.std.proofs.Common.{◌≡◌, ◌<◌, ◌&&◌, ℕ, Bool, true, false, List, [], ◌∷◌, length, get_or, Some, None, refl, arith, if◌then◌else◌, nat_lt}
use Rattle.std.specs.Str.Parse.{digits_value}
use Rattle.std.proofs.lemmas.Bool.Decides.{nat_tests}
use Rattle.row_codec.specs.Numbers.{is_numeral, number_below}
use Rattle.row_codec.specs.Records.{Record}
use Rattle.size_model.specs.Declarations.{declaration_of, declared_by}

pub four_fields : (r : Record) → length r ≡ 4 → declaration_of r ≡ declared_by (get_or r 0 []) (get_or r 1 []) (get_or r 2 []) (get_or r 3 [])
four_fields [] h = absurd (omega arith)
four_fields (a ∷ []) h = absurd (omega arith)
four_fields (a ∷ b ∷ []) h = absurd (omega arith)
four_fields (a ∷ b ∷ c ∷ []) h = absurd (omega arith)
four_fields (a ∷ b ∷ c ∷ d ∷ []) h = refl
four_fields (a ∷ b ∷ c ∷ d ∷ e ∷ more) h = absurd (omega arith)

pub other_fields : (r : Record) → (length r ≡ 4 → ⊥) → declaration_of r ≡ None
other_fields [] h = refl
other_fields (a ∷ []) h = refl
other_fields (a ∷ b ∷ []) h = refl
other_fields (a ∷ b ∷ c ∷ []) h = refl
other_fields (a ∷ b ∷ c ∷ d ∷ []) h = absurd (h refl)
other_fields (a ∷ b ∷ c ∷ d ∷ e ∷ more) h = refl

below_by : (a b : Bool) (bound v n : ℕ) → nat_lt v bound ≡ b → (if a && b then Some v else None) ≡ Some n → n < bound
below_by true true bound v n e h = let q : v ≡ n = cc in grind (arith, nat_tests, e, q)
below_by true false bound v n e h = absurd (cc)
below_by false b bound v n e h = absurd (cc)

-- a number that is read below a bound is below it
pub below : (bound : ℕ) (ds : List ℕ) (n : ℕ) → number_below bound ds ≡ Some n → n < bound
below bound ds n h = below_by (is_numeral ds) (nat_lt (digits_value 10 ds) bound) bound (digits_value 10 ds) n refl h
