-- The rows of an outer join at one key.
use Rattle.std.specs.Prelude.{ℕ, Bool, true, false, if◌then◌else◌, replicate, List, [], ◌∷◌, ◌++◌, map, flat_map}
use Rattle.scope_value.specs.declared.value.Value.{Value}
use Rattle.scope_value.specs.declared.value.Value.TheVariants.{Null}
use Rattle.outer_joins.specs.declared.side.Side.{Side}
use Rattle.outer_joins.specs.declared.side.Side.TheVariants.{Left, Right, Full}

-- the rows on that side are kept also without a partner
abbrev pub keeps_left : Side → Bool
keeps_left Left = true
keeps_left Right = false
keeps_left Full = true

abbrev pub keeps_right : Side → Bool
keeps_right Left = false
keeps_right Right = true
keeps_right Full = true

-- a row of so many nulls
abbrev pub nulls : ℕ → List Value
nulls n = replicate n Null

-- the left rows, each followed by nulls, and the right rows, each after nulls, where that side is kept
abbrev pub left_alone : Side → ℕ → List (List Value) → List (List Value)
left_alone side n A = if keeps_left side then map (λ r. r ++ nulls n) A else []

abbrev pub right_alone : Side → ℕ → List (List Value) → List (List Value)
right_alone side m B = if keeps_right side then map (λ s. nulls m ++ s) B else []

-- with both sides present each left row followed by each right row; where one is missing, the rows of the other, if that side is kept,
-- beside as many nulls as the first has columns
abbrev pub outer_pairs : Side → ℕ → ℕ → List (List Value) → List (List Value) → List (List Value)
outer_pairs side m n [] B = right_alone side m B
outer_pairs side m n (r ∷ A) [] = left_alone side n (r ∷ A)
outer_pairs side m n (r ∷ A) (s ∷ B) = flat_map (λ r. map (λ s. r ++ s) (s ∷ B)) (r ∷ A)
