-- Records with another number of fields than there are columns.
use Rattle.std.proofs.Common.{◌≡◌, ◌++◌, ℕ, suc, List, [], ◌∷◌, length, Option, Some, None, option_map, refl, ap}
use Rattle.scope_value.specs.declared.schema.Column.{Column}
use Rattle.scope_value.specs.declared.value.Value.{Value}
use Rattle.row_codec.specs.Fields.{field_value}
use Rattle.row_codec.specs.Rows.{text_extracts, with_value}

no_rest : (o : Option Value) → with_value o None ≡ None
no_rest None = refl
no_rest (Some v) = refl

other_count : (cs : List Column) (fs : List (List ℕ)) → (length fs ≡ length cs → ⊥) → text_extracts cs fs ≡ None
other_count [] [] h = absurd (h refl)
other_count [] (f ∷ fs) h = refl
other_count (c ∷ cs) [] h = refl
other_count (c ∷ cs) (f ∷ fs) h = rw (other_count cs fs (λ e. h (ap (λ n. suc n) e))) (no_rest (field_value c.kind f))

-- such a record is refused
pub refused-count : (held : List Value) (cs : List Column) (fs : List (List ℕ)) → (length fs ≡ length cs → ⊥)
    → None ≡ option_map (λ row. held ++ row) (text_extracts cs fs)
refused-count held cs fs h = rw (other_count cs fs h) refl
