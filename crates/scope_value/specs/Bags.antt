-- Bags of rows.
use Rattle.std.specs.Prelude.{◌≡◌, List, count_by}
use Rattle.std.specs.Ordering.{eq_by_cmp}
use Rattle.scope_value.specs.declared.value.Value.{Value}
use Rattle.scope_value.specs.Order.{row_cmp}

-- each row stands equally often in both lists
abbrev pub IsSameBag : List (List Value) → List (List Value) → Type 0
IsSameBag rows others = (row : List Value) → count_by (eq_by_cmp row_cmp row) rows ≡ count_by (eq_by_cmp row_cmp row) others
