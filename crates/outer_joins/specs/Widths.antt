-- The numbers of left and right columns, as args.
use Rattle.std.specs.Prelude.{◌==◌, ◌^◌, ◌&&◌, ℕ, Bool, false, List, [], ◌∷◌, Option, Some, None, if◌then◌else◌, nat_lt}
use Rattle.std.specs.Str.{bytes_eq}
use Rattle.std.specs.Str.Parse.{digits_value}
use Rattle.std.specs.Fmt.{decimal}

-- the number that decimal digits without leading zeros write, where it has at most 64 bits
abbrev pub width : List ℕ → Option ℕ
width text =
    if bytes_eq text (decimal (digits_value 10 text)) && nat_lt (digits_value 10 text) (2 ^ 64) then Some (digits_value 10 text)
    else None

abbrev pub both : Option ℕ → Option ℕ → Option (ℕ × ℕ)
both (Some m) (Some n) = Some (m, n)
both _ _ = None

-- the two numbers that the args name
abbrev pub widths : List (List ℕ) → Option (ℕ × ℕ)
widths (left ∷ right ∷ []) = both (width left) (width right)
widths _ = None

-- these are the two numbers
abbrev pub are_widths : ℕ → ℕ → Option (ℕ × ℕ) → Bool
are_widths m n (Some w) = w.0 == m && w.1 == n
are_widths m n None = false
