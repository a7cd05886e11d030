-- What `SplitWords` takes and gives.
use Rattle.std.specs.Prelude.{ℕ, Bool, false, ◌&&◌, List, [], ◌∷◌, map}
use Rattle.scope_value.specs.declared.schema.ColType.TheVariants as kind
use Rattle.scope_value.specs.declared.schema.Column.{Column}
use Rattle.scope_value.specs.declared.value.Value.{Value}
use Rattle.scope_value.specs.declared.value.Value.TheVariants as value
use Rattle.user_ops.specs.Told.{ToldProcessor}
use Rattle.scope_shipped.specs.Arguments.{has_none}
use Rattle.scope_shipped.specs.SameTypes.{same_type}
use Rattle.scope_shipped.specs.Words.{words}

-- the first column is a string
abbrev pub begins_with_text : List Column → Bool
begins_with_text [] = false
begins_with_text (c ∷ _) = same_type c.kind kind.Text

-- there is one column, a string
abbrev pub is_one_text : List Column → Bool
is_one_text (c ∷ []) = same_type c.kind kind.Text
is_one_text _ = false

-- a row for each word
abbrev pub word_rows : List (List ℕ) → List (List Value)
word_rows ws = map (λ w. value.Bytes w ∷ []) ws

-- a row for each word of the first column, and none where it is null
abbrev pub rows_of_words : List Value → List (List Value)
rows_of_words (value.Bytes text ∷ _) = word_rows (words text)
rows_of_words _ = []

-- what `SplitWords` tells
abbrev pub split_words : ToldProcessor
split_words = record {
  takes = λ input output args. has_none args && (begins_with_text input && is_one_text output);
  processes = λ _ row. rows_of_words row;
}
