-- Rows read so far, and the rest.
use Rattle.std.proofs.Common.{◌≡◌, ◌∙◌, ◌+◌, ◌++◌, ℕ, List, [], ◌∷◌, Ok, Err, Option, Result, Some, refl, ap, append_assoc}
use Rattle.scope_value.specs.declared.value.Value.{Value}
use Rattle.row_codec.specs.Records.{Record}
use Rattle.row_codec.specs.Rows.{rows_from, with_front}

fronts : (front : List (List Value)) (row : List Value) (rest : Result (List (List Value)) ℕ)
    → with_front (front ++ row ∷ []) rest ≡ with_front front (with_front (row ∷ []) rest)
fronts front row (Ok rows) = ap (λ (x : List (List Value)). Ok x) (append_assoc front (row ∷ []) rows)
fronts front row (Err at) = refl

-- a record that is taken
pub row_more : (extracts : Record → Option (List Value)) (at : ℕ) (front : List (List Value)) (row : List Value) (fields : Record) (rest : List Record)
    → extracts fields ≡ Some row
    → with_front (front ++ row ∷ []) (rows_from extracts (at + 1) rest) ≡ with_front front (rows_from extracts at (fields ∷ rest))
row_more extracts at front row fields rest e = fronts front row (rows_from extracts (at + 1) rest) ∙ rw e refl
