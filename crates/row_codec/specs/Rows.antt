-- The rows of records.
use Rattle.std.specs.Prelude.{◌≡◌, ◌+◌, ◌++◌, ℕ, List, [], ◌∷◌, Option, Some, None, Result, Ok, Err, MatchResult}
use Rattle.scope_value.specs.declared.value.Value.{Value}
use Rattle.scope_value.specs.declared.schema.Column.{Column}
use Rattle.row_codec.specs.Fields.{field_value}
use Rattle.row_codec.specs.Records.{Record}

-- a value before others, where all are there
abbrev pub with_value : Option Value → Option (List Value) → Option (List Value)
with_value (Some v) (Some vs) = Some (v ∷ vs)
with_value _ _ = None

-- the row of a record that has one field for each column, in order, each read by the column's type; else None
abbrev pub text_extracts : List Column → Record → Option (List Value)
text_extracts [] [] = Some []
text_extracts (c ∷ cs) (f ∷ fs) = with_value (field_value c.kind f) (text_extracts cs fs)
text_extracts [] (f ∷ fs) = None
text_extracts (c ∷ cs) [] = None

-- rows and then what comes of the rest
abbrev pub with_front : List (List Value) → Result (List (List Value)) ℕ → Result (List (List Value)) ℕ
with_front front (Ok rows) = Ok (front ++ rows)
with_front front (Err at) = Err at

-- what comes of a record with the number `at`, before what comes of the rest
abbrev pub with_row : ℕ → Option (List Value) → Result (List (List Value)) ℕ → Result (List (List Value)) ℕ
with_row at None rest = Err at
with_row at (Some row) rest = with_front (row ∷ []) rest

-- the rows of records, where `extracts` gives each its row, or the number of the first that it refuses, the first of all having the number `at`
abbrev pub rows_from : (Record → Option (List Value)) → ℕ → List Record → Result (List (List Value)) ℕ
rows_from extracts at [] = Ok []
rows_from extracts at (r ∷ rs) = with_row at (extracts r) (rows_from extracts (at + 1) rs)

-- what the code answers is that: the rows, or the number of the refused record
abbrev pub Answers : {X F : Type 0} → (X → List (List Value)) → (F → ℕ) → Result X F → Result (List (List Value)) ℕ → Type 0
Answers rows_of at_of r rows = MatchResult r (λ x. rows ≡ Ok (rows_of x)) (λ f. rows ≡ Err (at_of f))
