-- What `TextExtractor` takes and gives.
use Rattle.std.specs.Prelude.{ℕ, Bool, not, ◌&&◌, ◌==◌, nat_lt, List, [], ◌∷◌, Option, Some, None, is_some, unwrap_or, if◌then◌else◌}
use Rattle.user_ops.specs.Told.{ToldExtractor}
use Rattle.row_codec.specs.Rows.{text_extracts}

-- an ASCII byte other than a quote, CR and LF
abbrev pub is_delimiter : ℕ → Bool
is_delimiter b = nat_lt b 128 && (not (b == 34) && (not (b == 13) && not (b == 10)))

-- the delimiter that the args name: a comma without args, else the one byte of the one arg, if it may be one
abbrev pub delimiter_of : List (List ℕ) → Option ℕ
delimiter_of [] = Some 44
delimiter_of ((b ∷ []) ∷ []) = if is_delimiter b then Some b else None
delimiter_of _ = None

-- what `TextExtractor` tells: any output, no fixed columns, and one field for each output column, read in order
abbrev pub text_extractor : ToldExtractor
text_extractor = record {
  takes = λ _ args. is_some (delimiter_of args);
  extracts = λ _ output fields. text_extracts output fields;
  fixed_columns = None;
  delimits = λ args. unwrap_or (delimiter_of args) 44;
}
