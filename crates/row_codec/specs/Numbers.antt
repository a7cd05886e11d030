-- Numbers as decimal texts.
use Rattle.std.specs.Prelude.{◌==◌, ◌&&◌, ◌+◌, ℕ, ℤ, Bool, pos, neg_ℤ, List, [], ◌∷◌, length, Option, Some, None, if◌then◌else◌, nat_lt, option_map}
use Rattle.std.specs.List.{list_all}
use Rattle.std.specs.Char.{is_ascii_digit}
use Rattle.std.specs.Str.Parse.{digits_value}

-- one decimal digit or more, and nothing else
abbrev pub is_numeral : List ℕ → Bool
is_numeral ds = nat_lt 0 (length ds) && list_all is_ascii_digit ds

-- the number that decimal digits write, where it is below the bound
abbrev pub number_below : ℕ → List ℕ → Option ℕ
number_below bound ds =
    if is_numeral ds && nat_lt (digits_value 10 ds) bound then Some (digits_value 10 ds) else None

-- the number that a sign or none, and then digits, write, from `-limit` up to `limit - 1`
abbrev pub signed_number : ℕ → List ℕ → Option ℤ
signed_number limit [] = None
signed_number limit (b ∷ rest) =
    if b == 45 then option_map (λ n. neg_ℤ (pos n)) (number_below (limit + 1) rest)
    else if b == 43 then option_map pos (number_below limit rest)
    else option_map pos (number_below limit (b ∷ rest))
