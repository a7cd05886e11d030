-- The law of the combiners of outer joins: the rows that they give fit.
use Rattle.std.proofs.Common.{◌≡◌, ◌&&◌, ◌==◌, ℕ, Bool, true, false, if◌then◌else◌, List, [], ◌∷◌, ◌++◌, map, length, Option, Some, None, sym, subst}
use Rattle.std.proofs.lemmas.Bool.{eqb-true}
use Rattle.std.proofs.lemmas.List.Elements.{All-nil, All-map, All-weaker}
use Rattle.scope_value.specs.declared.schema.ColType.{ColType}
use Rattle.scope_value.specs.declared.schema.ColType.TheVariants as kind
use Rattle.scope_value.specs.declared.schema.Column.{Column}
use Rattle.scope_value.specs.declared.value.Value.{Value}
use Rattle.scope_value.specs.declared.value.Value.TheVariants as value
use Rattle.scope_value.specs.Fits.{Fits, RowFits}
use Rattle.user_ops.specs.Appends.{AllFit, PairGivesFitting}
use Rattle.user_ops.specs.Lawful.{IsLawfulCombiner}
use Rattle.scope_shipped.specs.Lawful.{inner_pairs-fit}
use Rattle.scope_shipped.specs.SameTypes.{same_types}
use Rattle.scope_shipped.specs.SameTypesLemmas.{and-first, and-second, RowFits-same, RowFits-append}
use Rattle.outer_joins.specs.declared.side.Side.{Side}
use Rattle.outer_joins.specs.OuterPairs.{keeps_left, keeps_right, nulls, left_alone, right_alone, outer_pairs}
use Rattle.outer_joins.specs.Widths.{widths, are_widths}
use Rattle.outer_joins.specs.Combiners.{outer_given, outer_told}

null-fits : (k : ColType) → Fits k value.Null
null-fits kind.Int = tt
null-fits kind.Long = tt
null-fits kind.Text = tt
null-fits kind.Bool = tt

-- null fits every column
nulls-fit : (schema : List Column) → RowFits schema (nulls (length schema))
nulls-fit [] = tt
nulls-fit (c ∷ cs) = (null-fits c.kind, nulls-fit cs)

module _ (left right output : List Column) (same : same_types (left ++ right) output ≡ true) where
  both-fit : (r s : List Value) → RowFits left r → RowFits right s → RowFits output (r ++ s)
  both-fit r s f g = RowFits-same (r ++ s) (left ++ right) output same (RowFits-append left right r s f g)

  left_alone-fit : (side : Side) (A : List (List Value)) → AllFit left A → AllFit output (left_alone side (length right) A)
  left_alone-fit side A f = by (keeps_left side)
    where
      by : (b : Bool) → AllFit output (if b then map (λ r. r ++ nulls (length right)) A else [])
      by true =
          All-map (RowFits output) (λ r. r ++ nulls (length right)) A
          (All-weaker (RowFits left) (λ r. RowFits output (r ++ nulls (length right))) (λ r fit. both-fit r (nulls (length right)) fit (nulls-fit right)) A f)
      by false = All-nil (RowFits output)

  right_alone-fit : (side : Side) (B : List (List Value)) → AllFit right B → AllFit output (right_alone side (length left) B)
  right_alone-fit side B g = by (keeps_right side)
    where
      by : (b : Bool) → AllFit output (if b then map (λ s. nulls (length left) ++ s) B else [])
      by true =
          All-map (RowFits output) (λ s. nulls (length left) ++ s) B
          (All-weaker (RowFits right) (λ s. RowFits output (nulls (length left) ++ s)) (λ s fit. both-fit (nulls (length left)) s (nulls-fit left) fit) B g)
      by false = All-nil (RowFits output)

  outer_pairs-fit : (side : Side) (A B : List (List Value)) → AllFit left A → AllFit right B → AllFit output (outer_pairs side (length left) (length right) A B)
  outer_pairs-fit side [] B f g = right_alone-fit side B g
  outer_pairs-fit side (r ∷ A) [] f g = left_alone-fit side (r ∷ A) f
  outer_pairs-fit side (r ∷ A) (s ∷ B) f g = (inner_pairs-fit [] (r ∷ A) (s ∷ B)).fit left right output same f g

  outer_given-fit : (side : Side) (A B : List (List Value)) → AllFit left A → AllFit right B → (o : Option (ℕ × ℕ)) → are_widths (length left) (length right) o ≡ true
      → AllFit output (outer_given side o A B)
  outer_given-fit side A B f g None h = All-nil (RowFits output)
  outer_given-fit side A B f g (Some w) h =
      let first : w.0 ≡ length left = eqb-true w.0 (length left) (and-first (w.0 == length left) (w.1 == length right) h) in
      let second : w.1 ≡ length right = eqb-true w.1 (length right) (and-second (w.0 == length left) (w.1 == length right) h) in
      subst (λ (m : ℕ). AllFit output (outer_pairs side m w.1 A B)) (sym first)
      (subst (λ (n : ℕ). AllFit output (outer_pairs side (length left) n A B)) (sym second) (outer_pairs-fit side A B f g))

-- where the rows of each side fit, so do the rows of the outer join
pub outer_told-fit : (side : Side) (args : List (List ℕ)) (left right : List (List Value)) → PairGivesFitting (outer_told side) args left right
outer_told-fit side args left right = record {
  fit = λ left_schema right_schema output taken left_fits right_fits.
      let counted = and-first (are_widths (length left_schema) (length right_schema) (widths args)) (same_types (left_schema ++ right_schema) output) taken in
      let same = and-second (are_widths (length left_schema) (length right_schema) (widths args)) (same_types (left_schema ++ right_schema) output) taken in
      outer_given-fit left_schema right_schema output same side left right left_fits right_fits (widths args) counted;
}

pub outer_told-lawful : (side : Side) → IsLawfulCombiner (outer_told side)
outer_told-lawful side = record { gives = outer_told-fit side }
