-- Join blocks: their leaves and pairs, and the joins of some of the leaves.
use Rattle.std.specs.Prelude.{◌≡◌, ◌↔◌, ◌⊎◌, ◌<◌, ◌+◌, ◌-◌, ◌/◌, ◌%◌, ℕ, nat_eq, true, if◌then◌else◌, List, [], ◌∷◌, ◌++◌, map, length, slice_get, Some, Result, MatchResult, Contains, IsPermutation}
use Rattle.std.specs.Borrow.{Bor}
use Rattle.col_sets.specs.Sets.{has, union}
use Rattle.logical_trees.specs.declared.logic_op.LogicOp.{LogicOp}
use Rattle.logical_trees.specs.declared.logic_op.LogicOp.TheVariants.{Join}
use Rattle.logical_trees.specs.declared.blocks.Equality.{Equality}
use Rattle.logical_trees.specs.declared.logical.Logical.{Logical}
use Rattle.logical_trees.specs.Tree.{Expression, one, two, tree_of, nodes, columns_of}
use Rattle.logical_trees.specs.Formed.{IsFormed}

-- the leaves of the join block at the top, from the left
abbrev pub block_leaves : Expression → List Expression
block_leaves (two (Join on) t u) = block_leaves t ++ block_leaves u
block_leaves t = t ∷ []

-- the pairs of columns that the block sets equal
abbrev pub block_pairs : Expression → List (ℕ × ℕ)
block_pairs (two (Join on) t u) = block_pairs t ++ (block_pairs u ++ on.items)
block_pairs t = []

-- the leaf of that number among these, or by how much the number is past the last one's
abbrev pub IsLeafAt : List Expression → ℕ → Result (Bor Logical) ℕ → Type 0
IsLeafAt leaves number found = MatchResult found (λ leaf. slice_get leaves number ≡ Some (tree_of leaf.now)) (λ past. number ≡ length leaves + past)

-- a pair that the Join of that number sets equal
abbrev pub equality : ℕ → ℕ × ℕ → Equality
equality number p = record { node = number; left = p.0; right = p.1 }

-- the pairs of the block, each with the number of its Join, where the expression has this number
abbrev pub block_equalities : Expression → ℕ → List Equality
block_equalities (two (Join on) t u) n = block_equalities t (n - length (nodes u) - 1) ++ (block_equalities u (n - 1) ++ map (equality n) on.items)
block_equalities t n = []

-- those whose bit is set, bit i being of the i-th
abbrev pub chosen : {X : Type 0} → ℕ → List X → List X
chosen mask [] = []
chosen mask (x ∷ xs) = if nat_eq (mask % 2) 1 then x ∷ chosen (mask / 2) xs else chosen (mask / 2) xs

-- a pair with one column on each side, whichever is written first
abbrev pub IsAcross : List (ℕ × ℕ) → List ℕ → List ℕ → ℕ × ℕ → Type 0
IsAcross pairs left right p = (has left p.0 ≡ true) × (has right p.1 ≡ true) × (Contains pairs (p.0, p.1) ⊎ Contains pairs (p.1, p.0))

-- a Join over these columns sets equal just the pairs that have one column on each side, the left one first, and at least one
abbrev pub IsPairing : List (ℕ × ℕ) → List ℕ → List ℕ → LogicOp → Type 0
IsPairing pairs left right (Join on) = (0 < length on.items) × ((p : ℕ × ℕ) → Contains on.items p ↔ IsAcross pairs left right p)
IsPairing pairs left right op = ⊥

-- the expression joins these leaves, in any order and grouping, by the pairs
pub data IsJoinOf (pairs : List (ℕ × ℕ)) : List Expression → Expression → Type 0 where
  alone : (t : Expression) → IsJoinOf pairs (t ∷ []) t
  both : {before beside leaves : List Expression} {op : LogicOp} {t u : Expression} → IsJoinOf pairs before t → IsJoinOf pairs beside u
      → IsPermutation (before ++ beside) leaves → IsPairing pairs (columns_of t) (columns_of u) op → IsJoinOf pairs leaves (two op t u)

-- it is so of some leaf
abbrev pub SomeLeaf : (Expression → Type 0) → List Expression → Type 0
SomeLeaf P [] = ⊥
SomeLeaf P (t ∷ leaves) = P t ⊎ SomeLeaf P leaves

-- the columns of all leaves
abbrev pub columns_of_all : List Expression → List ℕ
columns_of_all [] = []
columns_of_all (t ∷ leaves) = union (columns_of t) (columns_of_all leaves)

-- a formed expression is a join of the leaves of its block by the block's pairs
abbrev pub IsOwnJoin : Type 0
IsOwnJoin = (results : List (List ℕ)) (t : Expression) → IsFormed results t → IsJoinOf (block_pairs t) (block_leaves t) t
