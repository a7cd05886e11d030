-- The columns of inputs, as names see them: by place, under the alias of their input.
use Rattle.std.specs.Prelude.{ℕ, ◌+◌, Bool, if◌then◌else◌, List, [], ◌∷◌, ◌++◌, map, filter, length, Option, None}
use Rattle.std.specs.Option.{option_map_or}
use Rattle.col_sets.specs.declared.dir.Dir.{Dir}
use Rattle.col_sets.specs.declared.dir.Dir.TheVariants.{Up, Down}
use Rattle.scope_value.specs.declared.schema.Column.{Column}
use Rattle.script_trees.specs.declared.raw.RawRef.{RawRef}
use Rattle.script_trees.specs.declared.key.RawKey.{RawKey}
use Rattle.scope_expr.specs.declared.scope.Entry.{Entry}
use Rattle.scope_expr.specs.declared.scope.Scope.{Scope}
use Rattle.scope_expr.specs.Names.{column_of, is_named}
use Rattle.names_in_sight.specs.declared.input.Input.{Input}

-- the columns from this place on
abbrev pub seen_from : Option (List ℕ) → ℕ → List Column → List Entry
seen_from alias at [] = []
seen_from alias at (c ∷ cs) = record { alias = alias; name = c.name; id = at; kind = c.kind } ∷ seen_from alias (at + 1) cs

-- those of inputs, one after the other
abbrev pub sight_from : ℕ → List Input → List Entry
sight_from at [] = []
sight_from at (i ∷ inputs) = seen_from i.alias at i.columns ++ sight_from (at + length i.columns) inputs

abbrev pub sight_of : List Input → Scope
sight_of inputs = record { entries = sight_from 0 inputs; aggs = [] }

-- columns under no alias
abbrev pub sight_of_columns : List Column → Scope
sight_of_columns columns = record { entries = seen_from None 0 columns; aggs = [] }

-- the place of the column that a reference names, and 0 where it names none
abbrev pub place_of : Scope → RawRef → ℕ
place_of names r = option_map_or (λ e. e.id) (column_of names r) 0

-- the places of all columns that it names: of one, unless it is unknown or ambiguous
abbrev pub named_by : Scope → RawRef → List ℕ
named_by names r = map (λ e. e.id) (filter (is_named r) names.entries)

abbrev pub dir_of : Bool → Dir
dir_of down = if down then Down else Up

abbrev pub key_of : Scope → RawKey → ℕ × Dir
key_of names k = (place_of names k.column, dir_of k.down)

abbrev pub keys_of : Scope → List RawKey → List (ℕ × Dir)
keys_of names = map (key_of names)
