-- The values of rows over a set of columns.
use Rattle.std.proofs.Common.{◌≡◌, ℕ, true, List, [], ◌∷◌, map, length, refl, ap, ap₂, ◌∙◌, unwrap_or}
use Rattle.std.specs.Prelude.{option_map}
use Rattle.std.proofs.Math.ListN.{length-map}
use Rattle.std.proofs.lemmas.Option.{slice_get-map}
use Rattle.scope_value.specs.declared.value.Value.{Value}
use Rattle.scope_value.specs.declared.value.Value.TheVariants.{Null}
use Rattle.col_sets.specs.Sets.{has, rank, IsColumnSet}
use Rattle.col_sets.specs.Columns.{rank_place}
use Rattle.col_sets.specs.Tests.{or_left, or_right, to_test}
use Rattle.structural_props.specs.Rows.{value_at}
use Rattle.structural_props.specs.Agree.{agree_of}
use Rattle.structural_props.specs.WholeRows.{whole_rows}
use Rattle.logical_trees.specs.Rows.{Row, row_over}

-- the value of a row over a set of columns in one of them
pub value_over : (cols : List ℕ) (f : ℕ → Value) (c : ℕ) → IsColumnSet cols → has cols c ≡ true → value_at cols (row_over cols f) c ≡ f c
value_over cols f c set h =
    ap (λ o. unwrap_or o Null) (slice_get-map f cols (rank cols c) ∙ ap (option_map f) (rank_place cols c set h))

-- functions that are alike on the columns of a list map it alike
pub map_members : {X : Type 0} (f g : ℕ → X) (s : List ℕ) → ((c : ℕ) → has s c ≡ true → f c ≡ g c) → map f s ≡ map g s
map_members f g [] h = refl
map_members f g (c ∷ s) h = ap₂ ◌∷◌ (h c (or_left _ _ (to_test c c refl))) (map_members f g s (λ d k. h d (or_right _ _ k)))

-- a row is made of its values
pub row_over_same : (cols : List ℕ) (row : Row) → IsColumnSet cols → length row ≡ length cols → row_over cols (value_at cols row) ≡ row
row_over_same cols row set long =
    whole_rows cols set (row_over cols (value_at cols row)) row (length-map cols (value_at cols row)) long
    (agree_of cols cols (row_over cols (value_at cols row)) row (λ c h. value_over cols (value_at cols row) c set h))
