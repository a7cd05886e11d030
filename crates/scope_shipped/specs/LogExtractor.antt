-- What `LogExtractor` takes and gives.
use Rattle.std.specs.Prelude.{ℕ, Bool, ◌&&◌, ◌==◌, codes, List, [], ◌∷◌, length, slice_get, Option, Some, None, if◌then◌else◌}
use Rattle.std.specs.Option.{option_and_then}
use Rattle.std.specs.List.{list_any, list_all}
use Rattle.std.specs.Str.{bytes_eq}
use Rattle.scope_value.specs.declared.schema.ColType.{ColType}
use Rattle.scope_value.specs.declared.schema.ColType.TheVariants as kind
use Rattle.scope_value.specs.declared.schema.Column.{Column}
use Rattle.scope_value.specs.declared.value.Value.{Value}
use Rattle.user_ops.specs.Told.{ToldExtractor}
use Rattle.row_codec.specs.Fields.{field_value}
use Rattle.row_codec.specs.Rows.{with_value}
use Rattle.scope_shipped.specs.Arguments.{has_none}
use Rattle.scope_shipped.specs.SameTypes.{same_type}

-- a column of this name and type
abbrev pub named : List ℕ → ColType → Column
named name k = record { name = name; kind = k }

-- the fixed columns, in the order of a record's fields
abbrev pub log_columns : List Column
log_columns = named (codes "user") kind.Text ∷ named (codes "query") kind.Text ∷ named (codes "clicks") kind.Int ∷ []

-- the column has this name and type
abbrev pub is_named : List ℕ → ColType → Column → Bool
is_named name k c = bytes_eq c.name name && same_type c.kind k

-- the column is one of the fixed columns, by name and type
abbrev pub is_log_column : Column → Bool
is_log_column c = list_any (λ d. is_named d.name d.kind c) log_columns

-- which field of a record a name stands for
abbrev pub log_place : List ℕ → Option ℕ
log_place name =
    if bytes_eq name (codes "user") then Some 0
    else if bytes_eq name (codes "query") then Some 1
    else if bytes_eq name (codes "clicks") then Some 2
    else None

-- what a column is read as: the field of its name, read by its type
abbrev pub log_value : List (List ℕ) → Column → Option Value
log_value fields c = option_and_then (field_value c.kind) (option_and_then (slice_get fields) (log_place c.name))

-- the values of the columns, where each of them can be read
abbrev pub log_values : List (List ℕ) → List Column → Option (List Value)
log_values fields [] = Some []
log_values fields (c ∷ cs) = with_value (log_value fields c) (log_values fields cs)

-- what `LogExtractor` tells: a tab between fields, and a record of exactly three of them
abbrev pub log_extractor : ToldExtractor
log_extractor = record {
  takes = λ output args. has_none args && list_all is_log_column output;
  extracts = λ _ output fields. if length fields == 3 then log_values fields output else None;
  fixed_columns = Some log_columns;
  delimits = λ _. 9;
}
