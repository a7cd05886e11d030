-- How long rows are that fit.
use Rattle.std.specs.Prelude.{◌≡◌, List, length}
use Rattle.scope_value.specs.declared.schema.Column.{Column}
use Rattle.scope_value.specs.declared.value.Value.{Value}
use Rattle.scope_value.specs.Fits.{RowFits}

-- a row that fits a schema has one value for each column
abbrev pub AreFittingRowsAsLong : Type 0
AreFittingRowsAsLong = (schema : List Column) (row : List Value) → RowFits schema row → length row ≡ length schema
