-- The first of two values in an order.
use Rattle.std.specs.Prelude.{if◌then◌else◌}
use Rattle.std.specs.Ordering.{is_gt}
use Rattle.std.specs.declared.cmp.Ordering.{Ordering}
use Rattle.scope_value.specs.declared.value.Value.{Value}
use Rattle.logical_trees.specs.Rows.{is_present}

-- the first of two values, the left one where they tie; null comes after every other value
abbrev pub first_of : (Value → Value → Ordering) → Value → Value → Value
first_of cmp a b =
    if is_present a then if is_present b then if is_gt (cmp a b) then b else a
    else a
    else b
