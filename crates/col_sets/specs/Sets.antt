-- Sets of columns, as lists of numbers.
use Rattle.std.specs.Prelude.{◌≡◌, ℕ, Bool, true, false, List, [], ◌∷◌, length, nat_eq, nat_lt, ◌&&◌, ◌||◌}
use Rattle.std.specs.List.{filter, range_with_len}

-- the column c is in the set
abbrev pub has : List ℕ → ℕ → Bool
has [] c = false
has (d ∷ s) c = nat_eq d c || has s c

-- each column of s is in t
abbrev pub within : List ℕ → List ℕ → Bool
within [] t = true
within (c ∷ s) t = has t c && within s t

-- the columns below 128 that pass, ascending
unfoldable pub columns_where : (ℕ → Bool) → List ℕ
columns_where p = filter p (range_with_len 0 128)

-- the set of the columns of a list
abbrev pub set_of : List ℕ → List ℕ
set_of cols = columns_where (has cols)

-- s with the column c
abbrev pub with_column : List ℕ → ℕ → List ℕ
with_column s c = columns_where (λ d. nat_eq c d || has s d)

-- the columns of s and of t
abbrev pub union : List ℕ → List ℕ → List ℕ
union s t = columns_where (λ d. has s d || has t d)

-- how many columns of s are below c
abbrev pub rank : List ℕ → ℕ → ℕ
rank s c = length (filter (λ d. nat_lt d c) s)

-- how many columns s has
abbrev pub count : List ℕ → ℕ
count s = length s

-- s is the ascending list of some columns below 128
abbrev pub IsColumnSet : List ℕ → Type 0
IsColumnSet s = set_of s ≡ s
