-- Counts of rows in a map.
use Rattle.std.specs.Prelude.{ℕ, List, unwrap_or}
use Rattle.std.specs.HashMap.{get, HashMap}
use Rattle.scope_value.specs.declared.value.Value.{Value}
use Rattle.scope_shipped.specs.MultiSetDifference.{same_row}

-- the count of a row, 0 where the map has none
abbrev pub count_in : {S : Type 0} → HashMap (List Value) ℕ S → List Value → ℕ
count_in counts row = unwrap_or (get same_row counts row) 0
