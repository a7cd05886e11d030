-- A node's children and their numbers.
use Rattle.std.specs.Prelude.{◌≡◌, ◌≤◌, ◌+◌, ◌-◌, ℕ, List, [], ◌∷◌, length, slice_get, Some}
use Rattle.logical_trees.specs.Tree.{Tree, leaf, one, two, nodes, Expression}

-- the children of a node, left before right
abbrev pub children : {A : Type 0} → Tree A → List (Tree A)
children (leaf op) = []
children (one op t) = t ∷ []
children (two op t u) = t ∷ u ∷ []

-- their numbers, where the node has this one
abbrev pub child_numbers : {A : Type 0} → Tree A → ℕ → List ℕ
child_numbers (leaf op) n = []
child_numbers (one op t) n = (n - 1) ∷ []
child_numbers (two op t u) n = (n - length (nodes u) - 1) ∷ (n - 1) ∷ []

-- a node has no more nodes than its number says
abbrev pub FitsNumber : Type 0
FitsNumber = (t v : Expression) (n : ℕ) → slice_get (nodes t) n ≡ Some v → length (nodes v) ≤ n + 1

-- at the numbers of its children stand these
abbrev pub HasChildren : Type 0
HasChildren = (t v : Expression) (n i k : ℕ) → slice_get (nodes t) n ≡ Some v → slice_get (child_numbers v n) i ≡ Some k → slice_get (nodes t) k ≡ slice_get (children v) i
