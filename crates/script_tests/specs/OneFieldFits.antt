-- The rows of the extractor of the tests fit.
use Rattle.std.proofs.Common.{ℕ, List, [], ◌∷◌, Option, Some, None, IfSome, option_map}
use Rattle.scope_value.specs.declared.schema.ColType.{ColType}
use Rattle.scope_value.specs.declared.schema.Column.{Column}
use Rattle.scope_value.specs.declared.value.Value.{Value}
use Rattle.scope_value.specs.Fits.{Fits}
use Rattle.user_ops.specs.Extracts.{ReadsFitting, RowOfOutput}
use Rattle.user_ops.specs.Lawful.{IsLawfulExtractor}
use Rattle.script_tests.specs.OneField.{one_field, one_value, only_value}
use Rattle.row_codec.specs.Records.{Record}
use Rattle.row_codec.specs.Fitting.{field_fits}

only_fits : (k : ColType) (fields : Record) → IfSome (only_value k fields) (Fits k)
only_fits k [] = tt
only_fits k (f ∷ []) = field_fits k f
only_fits k (f ∷ (_ ∷ _)) = tt

in_row : (c : Column) (o : Option Value) → IfSome o (Fits c.kind) → RowOfOutput (c ∷ []) (option_map (λ v. v ∷ []) o)
in_row c None h = tt
in_row c (Some v) h = (h, tt)

row_fits_one : (output : List Column) (fields : Record) → RowOfOutput output (option_map (λ v. v ∷ []) (one_value output fields))
row_fits_one [] fields = tt
row_fits_one (c ∷ []) fields = in_row c (only_value c.kind fields) (only_fits c.kind fields)
row_fits_one (c ∷ (_ ∷ _)) fields = tt

-- the only value fits the only column
pub one_field_fit : (delimiter : ℕ) (args : List (List ℕ)) (output : List Column) (fields : Record) → ReadsFitting (one_field delimiter) args output fields
one_field_fit delimiter args output fields = record { fit = λ taken. row_fits_one output fields }

pub one_field-lawful : (delimiter : ℕ) → IsLawfulExtractor (one_field delimiter)
one_field-lawful delimiter = record { reads = one_field_fit delimiter; fixed = tt }
