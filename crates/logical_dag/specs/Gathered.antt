-- What the steps by which the facts of the leaves of a block are gathered promise each other.
use Rattle.std.specs.Prelude.{◌≡◌, ◌⊎◌, ◌<◌, ◌/◌, ◌&&◌, ℕ, true, nat_lt, nat_eq, List, [], ◌∷◌}
use Rattle.col_sets.specs.Sets.{has, union, IsColumnSet}
use Rattle.fd_closure.specs.declared.facts.Facts.{Facts}
use Rattle.fd_closure.specs.Known.{equal_of}
use Rattle.logical_trees.specs.Tree.{Expression, columns_of}
use Rattle.logical_dag.specs.Facts.{IsConstant, Determines, AreEqual}
use Rattle.logical_dag.specs.Known.{IsOwn, IsDependency, AreConstants, AreDependencies, AreClasses}
use Rattle.logical_trees.specs.Blocks.{SomeLeaf, columns_of_all}

-- the bits of the mask that are left once each of these had its own
abbrev pub bits_after : {X : Type 0} → List X → ℕ → ℕ
bits_after [] mask = mask
bits_after (x ∷ xs) mask = bits_after xs (mask / 2)

-- nothing is known of rows without columns
pub record IsBlank (f : Facts) : Type 0 where
  pub columns : f.columns ≡ []
  pub constants : f.constants ≡ []
  pub determined : f.determined ≡ []
  pub equal : (c d : ℕ) → equal_of f c d ≡ (nat_lt c 128 && nat_eq c d)

-- the columns are a set, each column is equal to itself, and what has a dependency is one of the columns
pub record IsOverColumns (f : Facts) : Type 0 where
  pub set : IsColumnSet f.columns
  pub own : IsOwn f
  pub within : (c : ℕ) → c < 128 → has f.determined c ≡ true → has f.columns c ≡ true

-- none of these columns is one of the expression's
abbrev pub IsApartFrom : List ℕ → Expression → Type 0
IsApartFrom cols t = (c : ℕ) → has cols c ≡ true → has (columns_of t) c ≡ true → ⊥

-- f has the facts of into and those of these leaves
pub record AreAdded (shared : List Facts) (into : Facts) (leaves : List Expression) (f : Facts) : Type 0 where
  pub columns : f.columns ≡ union into.columns (columns_of_all leaves)
  pub constants : AreConstants f (λ c. (has into.constants c ≡ true) ⊎ SomeLeaf (λ t. IsConstant shared t c) leaves)
  pub dependencies : AreDependencies f (λ s c. IsDependency into s c ⊎ SomeLeaf (λ t. Determines shared t s c) leaves)
  pub classes : AreClasses f (λ c d. (equal_of into c d ≡ true) ⊎ SomeLeaf (λ t. AreEqual shared t c d) leaves)
