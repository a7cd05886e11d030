-- Operators by their names.
use Rattle.std.specs.Prelude.{ℕ, Bool, true, ◌||◌, if◌then◌else◌, List, [], Option, Some, None, slice_get, codes}
use Rattle.std.specs.Option.{option_and_then, option_map_or}
use Rattle.std.specs.List.{position}
use Rattle.std.specs.Str.{bytes_eq}
use Rattle.scope_value.specs.declared.schema.Column.{Column}
use Rattle.user_ops.specs.Told.{Operators}
use Rattle.outer_joins.specs.declared.side.Side.{Side}
use Rattle.outer_joins.specs.declared.side.Side.TheVariants.{Left, Right, Full}

-- the place of a name among those of a kind
abbrev pub place_in : List (List ℕ) → List ℕ → Option ℕ
place_in names name = position (λ n. bytes_eq n name) names

-- and the first where the name isn't there
abbrev pub op_of : List (List ℕ) → List ℕ → ℕ
op_of names name = option_map_or (λ p. p) (place_in names name) 0

-- what the operator of that name tells
abbrev pub told_in : {T : Type 0} → List (List ℕ) → List T → List ℕ → Option T
told_in names told name = option_and_then (λ p. slice_get told p) (place_in names name)

-- the fixed columns of the extractor of that name
abbrev pub fixed_columns : Operators → List ℕ → Option (List Column)
fixed_columns ops name = option_and_then (λ e. e.fixed_columns) (told_in ops.extractor_names ops.extractors name)

-- and no columns where it has none, or isn't there
abbrev pub inline_columns : Operators → List ℕ → List Column
inline_columns ops name = option_map_or (λ cs. cs) (fixed_columns ops name) []

-- the name of the combiner of an outer join
abbrev pub outer_name : Side → List ℕ
outer_name Left = codes "LeftPairs"
outer_name Right = codes "RightPairs"
outer_name Full = codes "FullPairs"

-- an outputter of that name is there; without a name the one of commas is meant
abbrev pub is_outputter : Option (List ℕ) → Bool
is_outputter None = true
is_outputter (Some name) = bytes_eq name (codes "CommaOutputter") || bytes_eq name (codes "TabOutputter")

-- the byte between the fields of an outputter
abbrev pub delimiter_of : Option (List ℕ) → ℕ
delimiter_of None = 44
delimiter_of (Some name) = if bytes_eq name (codes "TabOutputter") then 9 else 44
