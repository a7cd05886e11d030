-- The rows of the marking extractor fit.
use Rattle.std.proofs.Common.{◌≡◌, true, List, [], ◌∷◌, ℕ, Some, codes}
use Rattle.scope_value.specs.declared.schema.ColType.{ColType}
use Rattle.scope_value.specs.declared.schema.ColType.TheVariants.{Int, Long, Text, Bool as Truth}
use Rattle.scope_value.specs.declared.schema.Column.{Column}
use Rattle.scope_value.specs.declared.value.Value.TheVariants.{Bytes}
use Rattle.scope_value.specs.Fits.{Fits, RowFits}
use Rattle.user_ops.specs.Extracts.{ReadsFitting}
use Rattle.user_ops.specs.Lawful.{IsLawfulExtractor}
use Rattle.run_tests.specs.Marking.{marking, is_text, is_one_text}

text_fits : (k : ColType) → is_text k ≡ true → Fits k (Bytes (codes "seen"))
text_fits Int h = absurd (cc)
text_fits Long h = absurd (cc)
text_fits Text h = tt
text_fits Truth h = absurd (cc)

row_fits : (output : List Column) → is_one_text output ≡ true → RowFits output (Bytes (codes "seen") ∷ [])
row_fits [] h = absurd (cc)
row_fits (c ∷ []) h = (text_fits c.kind h, tt)
row_fits (c ∷ d ∷ more) h = absurd (cc)

pub marking_fits : (args : List (List ℕ)) (output : List Column) (fields : List (List ℕ)) → ReadsFitting marking args output fields
marking_fits args output fields = record { fit = row_fits output }

pub marking-lawful : IsLawfulExtractor marking
marking-lawful = record { reads = marking_fits; fixed = tt }
