-- The rows that `FirstIsNull` gives fit.
use Rattle.std.proofs.Common.{◌≡◌, ℕ, Bool, true, List, [], ◌∷◌}
use Rattle.std.proofs.lemmas.List.Elements.{All-nil, All-cons}
use Rattle.scope_value.specs.declared.schema.ColType.{ColType}
use Rattle.scope_value.specs.declared.schema.ColType.TheVariants as kind
use Rattle.scope_value.specs.declared.schema.Column.{Column}
use Rattle.scope_value.specs.declared.value.Value.{Value}
use Rattle.scope_value.specs.declared.value.Value.TheVariants as value
use Rattle.scope_value.specs.Fits.{Fits, RowFits}
use Rattle.user_ops.specs.Appends.{GivesFitting}
use Rattle.user_ops.specs.Lawful.{IsLawfulProcessor}
use Rattle.scope_shipped.specs.Arguments.{has_none}
use Rattle.run_tests.specs.FirstIsNull.{first_is_null, begins_with_null, is_one_truth}
use Rattle.scope_shipped.specs.SameTypes.{same_type}
use Rattle.scope_shipped.specs.SameTypesLemmas.{and-second}

truth-fits : (b : Bool) (output : List Column) → is_one_truth output ≡ true → RowFits output (value.Bool b ∷ [])
truth-fits b [] h = absurd (cc)
truth-fits b (c ∷ (_ ∷ _)) h = absurd (cc)
truth-fits b (c ∷ []) h = (bool-fits c.kind h, tt)
  where
    bool-fits : (k : ColType) → same_type k kind.Bool ≡ true → Fits k (value.Bool b)
    bool-fits kind.Int e = absurd (cc)
    bool-fits kind.Long e = absurd (cc)
    bool-fits kind.Text e = absurd (cc)
    bool-fits kind.Bool e = tt

-- where the row fits, so does the row given
pub first_is_null-fit : (args : List (List ℕ)) (row : List Value) → GivesFitting first_is_null args row
first_is_null-fit args row = record {
  fit = λ input output taken fits.
      All-cons (RowFits output) (value.Bool (begins_with_null row) ∷ []) []
      (truth-fits (begins_with_null row) output (and-second (has_none args) (is_one_truth output) taken))
      (All-nil (RowFits output));
}

-- the law of `FirstIsNull`
pub first_is_null-lawful : IsLawfulProcessor first_is_null
first_is_null-lawful = record { gives = first_is_null-fit }

pub ruleset fit_rules = (first_is_null-fit)
