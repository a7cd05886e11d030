-- What `InnerPairs` takes and gives.
use Rattle.std.specs.Prelude.{◌++◌, ◌&&◌, List, map}
use Rattle.std.specs.List.{flat_map}
use Rattle.scope_value.specs.declared.value.Value.{Value}
use Rattle.user_ops.specs.Told.{ToldCombiner}
use Rattle.scope_shipped.specs.Arguments.{has_none}
use Rattle.scope_shipped.specs.SameTypes.{same_types}

-- the left row followed by each right row
abbrev pub pairs_of : List (List Value) → List Value → List (List Value)
pairs_of right l = map (λ r. l ++ r) right

-- what `InnerPairs` tells: each left row followed by each right row, left order first
abbrev pub inner_pairs : ToldCombiner
inner_pairs = record {
  takes = λ left right output args. has_none args && same_types (left ++ right) output;
  combines = λ _ left right. flat_map (pairs_of right) left;
}
