-- What a set of operators has.
use Rattle.std.specs.Prelude.{◌≡◌, true, is_some}
use Rattle.user_ops.specs.Told.{Operators}
use Rattle.names_in_sight.specs.Operators.{place_in, outer_name}
use Rattle.outer_joins.specs.declared.side.Side.{Side}

-- something is there under the name of each combiner of outer joins
abbrev pub HasOuterJoins : Operators → Type 0
HasOuterJoins ops = (side : Side) → is_some (place_in ops.combiner_names (outer_name side)) ≡ true
