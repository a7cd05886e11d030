-- The args of an operator.
use Rattle.std.specs.Prelude.{ℕ, Bool, true, false, List, [], ◌∷◌}

-- there are no args
abbrev pub has_none : List (List ℕ) → Bool
has_none [] = true
has_none (_ ∷ _) = false
