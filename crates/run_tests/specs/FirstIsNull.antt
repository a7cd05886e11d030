-- What `FirstIsNull`, the example of docs/OPERATORS.md, takes and gives.
use Rattle.std.specs.Prelude.{Bool, true, false, ◌&&◌, List, [], ◌∷◌}
use Rattle.scope_value.specs.declared.schema.ColType.TheVariants as kind
use Rattle.scope_value.specs.declared.schema.Column.{Column}
use Rattle.scope_value.specs.declared.value.Value.{Value}
use Rattle.scope_value.specs.declared.value.Value.TheVariants as value
use Rattle.user_ops.specs.Told.{ToldProcessor}
use Rattle.scope_shipped.specs.Arguments.{has_none}
use Rattle.scope_shipped.specs.SameTypes.{same_type}

-- there is one column, a bool
abbrev pub is_one_truth : List Column → Bool
is_one_truth (c ∷ []) = same_type c.kind kind.Bool
is_one_truth _ = false

-- there is a first value, and it is null
abbrev pub begins_with_null : List Value → Bool
begins_with_null (value.Null ∷ _) = true
begins_with_null _ = false

-- what `FirstIsNull` tells: one row, whether the first value is null
abbrev pub first_is_null : ToldProcessor
first_is_null = record {
  takes = λ input output args. has_none args && is_one_truth output;
  processes = λ _ row. (value.Bool (begins_with_null row) ∷ []) ∷ [];
}
