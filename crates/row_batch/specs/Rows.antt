-- What a batch is: a width and a list of rows.
use Rattle.std.specs.Prelude.{◌≡◌, ℕ, ◌+◌, ◌≤◌, List, ◌++◌, length, map, take, drop}
use Rattle.std.specs.List.{All}
use Rattle.scope_value.specs.declared.value.Value.{Value}

-- rows, each of `width` values
pub record Rows : Type 0 where
  pub width : ℕ
  pub rows : List (List Value)

-- the row that begins at a place of a list of values
abbrev pub row_at : ℕ → List Value → ℕ → List Value
row_at width values start = take width (drop start values)

-- the rows that begin at these places
abbrev pub rows_at : ℕ → List Value → List ℕ → List (List Value)
rows_at width values starts = map (row_at width values) starts

-- each of them is there
abbrev pub AreThere : ℕ → List Value → List ℕ → Type 0
AreThere width values starts = All (λ start. start + width ≤ length values) starts

-- nothing is taken off, whatever is added
abbrev pub IsLonger : List Value → List Value → Type 0
IsLonger old new = (more : List Value) × (new ≡ old ++ more)
