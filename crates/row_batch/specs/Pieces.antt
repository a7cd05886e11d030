-- A list cut into pieces by the places where they end.
use Rattle.std.specs.Prelude.{◌≡◌, ℕ, ◌≤◌, List, [], ◌∷◌}
use Rattle.std.specs.List.{slice_range}

-- the pieces that end at these places one behind another, the first beginning at `from`
abbrev pub pieces : {X : Type 0} → List X → ℕ → List ℕ → List (List X)
pieces xs from [] = []
pieces xs from (end ∷ ends) = slice_range xs from end ∷ pieces xs end ends

-- none ends before it begins, and the last ends at `last`
abbrev pub AreEnds : ℕ → List ℕ → ℕ → Type 0
AreEnds from [] last = from ≡ last
AreEnds from (end ∷ ends) last = (from ≤ end) × AreEnds end ends last
