-- What `MultiSetDifference` takes and gives.
use Rattle.std.specs.Prelude.{ℕ, Bool, ◌-◌, ◌&&◌, nat_le, if◌then◌else◌, List, [], ◌∷◌, count_by}
use Rattle.std.specs.Ordering.{eq_by_cmp}
use Rattle.scope_value.specs.declared.value.Value.{Value}
use Rattle.scope_value.specs.Order.{row_cmp}
use Rattle.user_ops.specs.Told.{ToldCombiner}
use Rattle.scope_shipped.specs.Arguments.{has_none}
use Rattle.scope_shipped.specs.SameTypes.{same_types}

-- the rows are one
abbrev pub same_row : List Value → List Value → Bool
same_row = eq_by_cmp row_cmp

-- how often a row stands in a list
abbrev pub copies : List Value → List (List Value) → ℕ
copies row rows = count_by (same_row row) rows

-- of a tail of left, in its order, the rows that are among the last n of their equal copies, where n is how often the row stands in left
-- less how often it stands in right, and 0 where that is less than nothing
abbrev pub last_copies : List (List Value) → List (List Value) → List (List Value) → List (List Value)
last_copies left right [] = []
last_copies left right (row ∷ rest) =
    if nat_le (copies row (row ∷ rest)) (copies row left - copies row right) then row ∷ last_copies left right rest
    else last_copies left right rest

-- what `MultiSetDifference` tells
abbrev pub multi_set_difference : ToldCombiner
multi_set_difference = record {
  takes = λ left right output args. has_none args && (same_types left right && same_types left output);
  combines = λ _ left right. last_copies left right left;
}
