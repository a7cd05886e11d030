-- What the marking extractor of the tests takes and gives.
use Rattle.std.specs.Prelude.{ℕ, Bool, true, false, List, [], ◌∷◌, Some, None, codes}
use Rattle.scope_value.specs.declared.schema.ColType.{ColType}
use Rattle.scope_value.specs.declared.schema.ColType.TheVariants.{Text}
use Rattle.scope_value.specs.declared.schema.Column.{Column}
use Rattle.scope_value.specs.declared.value.Value.TheVariants.{Bytes}
use Rattle.user_ops.specs.Told.{ToldExtractor}

abbrev pub is_text : ColType → Bool
is_text Text = true
is_text k = false

-- one string column
abbrev pub is_one_text : List Column → Bool
is_one_text (c ∷ []) = is_text c.kind
is_one_text columns = false

-- one string column, and for each record the string `seen` there, whatever its fields
abbrev pub marking : ToldExtractor
marking = record {
  takes = λ output args. is_one_text output;
  extracts = λ args output fields. Some (Bytes (codes "seen") ∷ []);
  fixed_columns = None;
  delimits = λ args. 44;
}
