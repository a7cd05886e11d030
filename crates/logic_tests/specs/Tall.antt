-- What the tall expressions of the tests keep as they grow.
use Rattle.std.specs.Prelude.{◌≡◌, ℕ, List, [], ◌∷◌}
use Rattle.logical_trees.specs.Tree.{Expression, columns_of}
use Rattle.logical_trees.specs.Formed.{IsFormed}

-- the columns 0 to 3
abbrev pub four_columns : List ℕ
four_columns = 0 ∷ 1 ∷ 2 ∷ 3 ∷ []

-- the expression is formed, and gives rows of these columns
abbrev pub IsOverFour : Expression → Type 0
IsOverFour t = IsFormed [] t × (columns_of t ≡ four_columns)
