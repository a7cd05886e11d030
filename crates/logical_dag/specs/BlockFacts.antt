-- The facts of a join of some leaves of a block, in whatever order they are joined.
use Rattle.std.specs.Prelude.{◌≡◌, ◌↔◌, ◌⊎◌, ◌<◌, ℕ, true, List, Contains}
use Rattle.col_sets.specs.Sets.{has}
use Rattle.fd_closure.specs.declared.facts.Facts.{Facts}
use Rattle.fd_closure.specs.Known.{by_of, equal_of}
use Rattle.logical_trees.specs.Tree.{Expression}
use Rattle.logical_trees.specs.Blocks.{SomeLeaf, columns_of_all}
use Rattle.logical_dag.specs.Facts.{IsLinked, IsConstant, Determines, AreEqual}

-- a pair both of whose columns are among these
abbrev pub IsInside : List (ℕ × ℕ) → List ℕ → ℕ → ℕ → Type 0
IsInside pairs cols a b = (has cols a ≡ true) × (has cols b ≡ true) × Contains pairs (a, b)

-- the facts are those of the leaves, and the columns of each pair that lies inside are equal
pub record AreFactsOfAll (shared : List Facts) (pairs : List (ℕ × ℕ)) (leaves : List Expression) (f : Facts) : Type 0 where
  pub columns : f.columns ≡ columns_of_all leaves
  pub constants : (c : ℕ) → c < 128 → (has f.constants c ≡ true) ↔ SomeLeaf (λ t. IsConstant shared t c) leaves
  pub stated : (c : ℕ) → c < 128 → has f.determined c ≡ true → SomeLeaf (λ t. Determines shared t (by_of f c) c) leaves
  pub all : (s : List ℕ) (c : ℕ) → SomeLeaf (λ t. Determines shared t s c) leaves → (has f.determined c ≡ true) × ((d : ℕ) → has s d ≡ has (by_of f c) d)
  pub equal : (c d : ℕ) → c < 128 → d < 128
      → (equal_of f c d ≡ true) ↔ IsLinked (λ a b. SomeLeaf (λ t. AreEqual shared t a b) leaves ⊎ IsInside pairs f.columns a b) c d
