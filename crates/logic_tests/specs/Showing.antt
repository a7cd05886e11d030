-- What the operators of the tests tell: they show the rows that they are given, and take no schemas.
use Rattle.std.specs.Prelude.{false, List, [], ◌∷◌}
use Rattle.scope_value.specs.declared.value.Value.{Value}
use Rattle.user_ops.specs.Told.{ToldProcessor, ToldReducer, ToldCombiner}

-- the row itself
abbrev pub row_shown : ToldProcessor
row_shown = record { takes = λ input output args. false; processes = λ args row. row ∷ [] }

-- the rows in the order in which they are given
abbrev pub group_shown : ToldReducer
group_shown = record { takes = λ input output args. false; reduces = λ args rows. rows }

-- the left rows, or the right ones where there are no left ones
abbrev pub left_or_right : List (List Value) → List (List Value) → List (List Value)
left_or_right [] right = right
left_or_right (r ∷ left) right = r ∷ left

abbrev pub side_shown : ToldCombiner
side_shown = record { takes = λ left right output args. false; combines = λ args left right. left_or_right left right }
