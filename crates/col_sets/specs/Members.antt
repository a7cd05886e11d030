-- A set of columns as a list, and back.
use Rattle.std.specs.Prelude.{ℕ, ◌+◌, ◌*◌, ◌^◌, List, [], ◌∷◌, nat_eq}
use Rattle.std.specs.Int.{bit_at}
use Rattle.std.specs.Int.RustNames.{bit_or}
use Rattle.col_sets.specs.Sets.{columns_where}

-- the columns whose bit is set
unfoldable pub members : ℕ → List ℕ
members bits = columns_where (λ c. nat_eq (bit_at bits c) 1)

-- the bits of a list of columns
abbrev pub bits_of : List ℕ → ℕ
bits_of [] = 0
bits_of (c ∷ s) = bit_or (bits_of s) (2 ^ c)

-- the bits of two halves
abbrev pub both_halves : ℕ → ℕ → ℕ
both_halves low high = high * 2 ^ 64 + low
