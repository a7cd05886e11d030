-- What the combiners of outer joins tell.
use Rattle.std.specs.Prelude.{ℕ, ◌++◌, ◌&&◌, length, List, [], Option, Some, None}
use Rattle.scope_value.specs.declared.value.Value.{Value}
use Rattle.user_ops.specs.Told.{ToldCombiner}
use Rattle.scope_shipped.specs.SameTypes.{same_types}
use Rattle.outer_joins.specs.declared.side.Side.{Side}
use Rattle.outer_joins.specs.OuterPairs.{outer_pairs}
use Rattle.outer_joins.specs.Widths.{widths, are_widths}

-- the rows of an outer join, where the two numbers of columns are named
abbrev pub outer_given : Side → Option (ℕ × ℕ) → List (List Value) → List (List Value) → List (List Value)
outer_given side (Some w) A B = outer_pairs side w.0 w.1 A B
outer_given side None A B = []

-- what the combiner of that side tells: its args are the numbers of left and right columns, and the output has left's types and then right's
abbrev pub outer_told : Side → ToldCombiner
outer_told side = record {
  takes = λ left right output args. are_widths (length left) (length right) (widths args) && same_types (left ++ right) output;
  combines = λ args left right. outer_given side (widths args) left right;
}
