-- What args the combiners of outer joins take, and what they give with them.
use Rattle.std.specs.Prelude.{◌≡◌, ◌<◌, ◌^◌, ℕ, true, List, [], ◌∷◌, ◌++◌, length}
use Rattle.std.specs.Bool.{Decides}
use Rattle.std.specs.Fmt.{decimal}
use Rattle.scope_value.specs.declared.schema.Column.{Column}
use Rattle.scope_value.specs.declared.value.Value.{Value}
use Rattle.scope_shipped.specs.SameTypes.{same_types}
use Rattle.outer_joins.specs.declared.side.Side.{Side}
use Rattle.outer_joins.specs.OuterPairs.{outer_pairs}
use Rattle.outer_joins.specs.Combiners.{outer_told}

-- two numbers as args
abbrev pub width_args : ℕ → ℕ → List (List ℕ)
width_args m n = decimal m ∷ decimal n ∷ []

-- schemas, of as many columns as 64 bits can count, are taken just with their numbers of columns as args and an output of their types
abbrev pub TakesJustWidths : Type 0
TakesJustWidths = (side : Side) (left right output : List Column) (args : List (List ℕ)) → length left < 2 ^ 64 → length right < 2 ^ 64
    → Decides ((outer_told side).takes left right output args) ((args ≡ width_args (length left) (length right)) × (same_types (left ++ right) output ≡ true))

-- with the numbers of columns as args the rows of the outer join are given
abbrev pub GivesOuterPairs : Type 0
GivesOuterPairs = (side : Side) (m n : ℕ) (A B : List (List Value)) → m < 2 ^ 64 → n < 2 ^ 64
    → (outer_told side).combines (width_args m n) A B ≡ outer_pairs side m n A B
