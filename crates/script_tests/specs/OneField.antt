-- What the extractor of the tests takes and gives.
use Rattle.std.specs.Prelude.{ℕ, true, List, [], ◌∷◌, Option, None, option_map}
use Rattle.scope_value.specs.declared.schema.ColType.{ColType}
use Rattle.scope_value.specs.declared.schema.Column.{Column}
use Rattle.scope_value.specs.declared.value.Value.{Value}
use Rattle.user_ops.specs.Told.{ToldExtractor}
use Rattle.row_codec.specs.Fields.{field_value}
use Rattle.row_codec.specs.Records.{Record}

-- the value of the only field, read by this type
abbrev pub only_value : ColType → Record → Option Value
only_value k (f ∷ []) = field_value k f
only_value k _ = None

-- the value of the only field, read by the type of the only column
abbrev pub one_value : List Column → Record → Option Value
one_value (c ∷ []) fields = only_value c.kind fields
one_value _ fields = None

-- what it tells: any output, no fixed columns, this delimiter, and rows of one value
abbrev pub one_field : ℕ → ToldExtractor
one_field delimiter = record {
  takes = λ _ _. true;
  extracts = λ _ output fields. option_map (λ v. v ∷ []) (one_value output fields);
  fixed_columns = None;
  delimits = λ _. delimiter;
}
