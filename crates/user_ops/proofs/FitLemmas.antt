-- Rows that fit a schema, and the law of an operator at its place in a set.
use Rattle.std.proofs.Common.{◌≡◌, ℕ, suc, List, [], ◌∷◌, length, Some, slice_get, refl, ap, subst}
use Rattle.std.specs.Prelude.{All}
use Rattle.std.proofs.lemmas.Option.{slice_get_within, get_or_from_slice_get}
use Rattle.scope_value.specs.declared.schema.Column.{Column}
use Rattle.scope_value.specs.declared.value.Value.{Value}
use Rattle.scope_value.specs.Fits.{RowFits}

-- one value for each column
pub RowFits-length : (schema : List Column) (row : List Value) → RowFits schema row → length row ≡ length schema
RowFits-length [] [] fits = refl
RowFits-length [] (v ∷ row) fits = absurd fits
RowFits-length (c ∷ schema) [] fits = absurd fits
RowFits-length (c ∷ schema) (v ∷ row) fits = ap suc (RowFits-length schema row fits.1)

-- what all have, the one at a place has
pub All-slice_get : {T : Type 0} (P : T → Type 0) (all : List T) (place : ℕ) (told : T) → slice_get all place ≡ Some told → All P all → P told
All-slice_get P all place told at each = subst P (get_or_from_slice_get all place told told at) (each place told (slice_get_within all place told at))
