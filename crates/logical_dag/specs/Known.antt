-- What the steps by which the facts of an expression are found promise each other.
use Rattle.std.specs.Prelude.{◌≡◌, ◌↔◌, ◌⊎◌, ◌<◌, ℕ, true, false, List, [], slice_get, slice_index_or, Option, Some, None, IfSome, IsSomeAnd, Contains}
use Rattle.col_sets.specs.Sets.{has, union, IsColumnSet}
use Rattle.scope_expr.specs.declared.expr.Expr.{Expr}
use Rattle.fd_closure.specs.declared.facts.Facts.{Facts}
use Rattle.fd_closure.specs.Known.{by_of, equal_of, IsMerged}
use Rattle.logical_trees.specs.declared.logic_op.LogicOp.{LogicOp}
use Rattle.logical_trees.specs.declared.logic_op.LogicOp.TheVariants.{Ref, Join}
use Rattle.logical_dag.specs.declared.naming.Names.{Names}
use Rattle.logical_trees.specs.Tree.{Expression, leaf, one, two, one_columns}
use Rattle.logical_dag.specs.Facts.{IsLinked, Renamed, BothRenamed, DependencyRenamed, is_column, key_name, name_above, MakesConstant, MakesDependent, MakesEqual, AreFactsOf}
use Rattle.logical_trees.specs.Formed.{IsFormed}
use Rattle.logical_dag.specs.Laws.{lent_columns}

-- the facts that are lent for a shared result are over a set of columns
abbrev pub IsLentSet : List Facts → Expression → Type 0
IsLentSet shared (leaf (Ref i cols)) = IfSome (slice_get shared i) (λ f. IsColumnSet f.columns)
IsLentSet shared (leaf op) = Unit {0}
IsLentSet shared (one op t) = IsLentSet shared t
IsLentSet shared (two op t u) = IsLentSet shared t × IsLentSet shared u

-- the name of a column, where it has one
abbrev pub name_of : Names → ℕ → Option ℕ
name_of names c = slice_index_or names.of c None

-- names are columns, and no two columns have the same
pub record IsNaming (name : ℕ → Option ℕ) : Type 0 where
  pub below : (b c : ℕ) → name b ≡ Some c → c < 128
  pub single : (a b c : ℕ) → name a ≡ Some c → name b ≡ Some c → a ≡ b

-- s is what the column depends on by the facts
abbrev pub IsDependency : Facts → List ℕ → ℕ → Type 0
IsDependency f s c = (c < 128) × (has f.determined c ≡ true) × (s ≡ by_of f c)

-- each column is equal to itself by the facts
abbrev pub IsOwn : Facts → Type 0
IsOwn f = (c : ℕ) → c < 128 → equal_of f c c ≡ true

-- the columns that are so related are below 128
abbrev pub AreBelow : (ℕ → ℕ → Type 0) → Type 0
AreBelow R = (c d : ℕ) → R c d → (c < 128) × (d < 128)

-- columns are equal by the facts where chains of these equalities link them
pub record AreClasses (f : Facts) (Stated : ℕ → ℕ → Type 0) : Type 0 where
  pub own : IsOwn f
  pub there : (c d : ℕ) → equal_of f c d ≡ true → IsLinked Stated c d
  pub back : (c d : ℕ) → IsLinked Stated c d → (c ≡ d) ⊎ (equal_of f c d ≡ true)

-- each dependency by the facts is one of these, and the facts have each of these
pub record AreDependencies (f : Facts) (D : List ℕ → ℕ → Type 0) : Type 0 where
  pub stated : (c : ℕ) → c < 128 → has f.determined c ≡ true → D (by_of f c) c
  pub all : (s : List ℕ) (c : ℕ) → D s c → (has f.determined c ≡ true) × ((d : ℕ) → has s d ≡ has (by_of f c) d)

-- the constants by the facts are these
abbrev pub AreConstants : Facts → (ℕ → Type 0) → Type 0
AreConstants f C = (c : ℕ) → c < 128 → (has f.constants c ≡ true) ↔ C c

-- what was constant, and what is constant under its name
abbrev pub CarriedConstants : Facts → (ℕ → Option ℕ) → Facts → ℕ → Type 0
CarriedConstants from name into c = (has into.constants c ≡ true) ⊎ Renamed name (λ b. has from.constants b ≡ true) c

-- what a column depended on, and what it depends on where all columns have their names
abbrev pub CarriedDependencies : Facts → (ℕ → Option ℕ) → Facts → List ℕ → ℕ → Type 0
CarriedDependencies from name into s c = IsDependency into s c ⊎ DependencyRenamed name (IsDependency from) s c

-- what was equal, and what is equal under its names
abbrev pub CarriedEqualities : Facts → (ℕ → Option ℕ) → Facts → ℕ → ℕ → Type 0
CarriedEqualities from name into c d = (equal_of into c d ≡ true) ⊎ BothRenamed name (λ a b. equal_of from a b ≡ true) c d

-- f has the facts of into, and those of from under new names
pub record AreCarried (from : Facts) (name : ℕ → Option ℕ) (into f : Facts) : Type 0 where
  pub columns : f.columns ≡ into.columns
  pub constants : AreConstants f (CarriedConstants from name into)
  pub dependencies : AreDependencies f (CarriedDependencies from name into)
  pub classes : AreClasses f (CarriedEqualities from name into)

-- the column a has been given its dependency under its name
abbrev pub AddedDependency : Facts → (ℕ → Option ℕ) → ℕ → Facts → List ℕ → ℕ → Type 0
AddedDependency from name a into s c = IsDependency into s c ⊎ DependencyRenamed name (λ r b. (b ≡ a) × IsDependency from r b) s c

-- no column below a is equal to it and has a name
abbrev pub IsFirstAlike : Facts → (ℕ → Option ℕ) → ℕ → Type 0
IsFirstAlike from name a = (b : ℕ) → b < a → equal_of from b a ≡ true → name b ≡ None

-- an equal column below a has this name
abbrev pub IsAlikeBelow : Facts → (ℕ → Option ℕ) → ℕ → ℕ → Type 0
IsAlikeBelow from name a c = (b : ℕ) × (b < a) × (equal_of from b a ≡ true) × (name b ≡ Some c)

-- the name of a is set equal to that of an equal column below it, where both have names
abbrev pub IsEquated : Facts → (ℕ → Option ℕ) → ℕ → Facts → Facts → Type 0
IsEquated from name a into f =
    ((f ≡ into) × ((name a ≡ None) ⊎ IsFirstAlike from name a))
    ⊎ ((c d : ℕ) × IsAlikeBelow from name a c × (name a ≡ Some d) × IsMerged into c d f)

-- the item at a place is the plain column
abbrev pub IsItem : List Expr → ℕ → ℕ → Type 0
IsItem items i b = IsSomeAnd (slice_get items i) (λ e. is_column b e ≡ true)

-- the column of an item is set equal to that of an earlier one that is the same plain column, if there is one
abbrev pub IsItemEquated : List Expr → List ℕ → ℕ → Facts → Facts → Type 0
IsItemEquated items cols j into f =
    ((f ≡ into) × ((k b d : ℕ) → k < j → slice_get cols j ≡ Some d → IsItem items k b → IsItem items j b → ⊥))
    ⊎ ((i b c d : ℕ) × (i < j) × (slice_get cols i ≡ Some c) × (slice_get cols j ≡ Some d) × IsItem items i b × IsItem items j b × IsMerged into c d f)

-- f has the facts of from under new names, and these
pub record AreNamed (name : ℕ → Option ℕ) (C : ℕ → Type 0) (D : List ℕ → ℕ → Type 0) (E : ℕ → ℕ → Type 0) (cols : List ℕ) (from f : Facts) : Type 0 where
  pub columns : f.columns ≡ cols
  pub constants : AreConstants f (λ c. Renamed name (λ b. has from.constants b ≡ true) c ⊎ C c)
  pub dependencies : AreDependencies f (λ s c. DependencyRenamed name (IsDependency from) s c ⊎ D s c)
  pub classes : AreClasses f (λ c d. BothRenamed name (λ a b. equal_of from a b ≡ true) c d ⊎ E c d)

-- f has just the facts of from under new names
abbrev pub AreRenamed : Facts → (ℕ → Option ℕ) → List ℕ → Facts → Type 0
AreRenamed from name cols f = AreNamed name (λ c. ⊥) (λ s c. ⊥) (λ c d. ⊥) cols from f

-- f has the facts of from under their names above the node, and those that the node makes
abbrev pub AreAbove : LogicOp → Facts → Facts → Type 0
AreAbove op from f = AreNamed (name_above op) (MakesConstant op) (MakesDependent op) (MakesEqual op) (one_columns op from.columns) from f

-- f has the facts of both sides, and those of the pairs
pub record AreJoined (on : List (ℕ × ℕ)) (left right f : Facts) : Type 0 where
  pub columns : f.columns ≡ union left.columns right.columns
  pub constants : AreConstants f (λ c. (has left.constants c ≡ true) ⊎ (has right.constants c ≡ true))
  pub dependencies : AreDependencies f (λ s c. IsDependency left s c ⊎ IsDependency right s c)
  pub classes : AreClasses f (λ c d. CarriedEqualities right (key_name right.columns) left c d ⊎ Contains on (c, d))

-- f has the facts of a node over an expression with the facts below
abbrev pub AreFactsAbove : LogicOp → Facts → Facts → Type 0
AreFactsAbove op below f = (shared : List Facts) (t : Expression) → IsFormed (lent_columns shared) (one op t) → AreFactsOf shared t below → AreFactsOf shared (one op t) f

-- and of a node over two
abbrev pub AreFactsOver : LogicOp → Facts → Facts → Facts → Type 0
AreFactsOver op left right f = (shared : List Facts) (t u : Expression) → IsFormed (lent_columns shared) (two op t u) → AreFactsOf shared t left → AreFactsOf shared u right → AreFactsOf shared (two op t u) f

-- no column has a dependency by both facts
abbrev pub AreApart : Facts → Facts → Type 0
AreApart left right = (c : ℕ) → c < 128 → has right.determined c ≡ true → has left.determined c ≡ false

-- the same where the node is a join
abbrev pub IsJoinApart : LogicOp → Facts → Facts → Type 0
IsJoinApart (Join on) left right = AreApart left right
IsJoinApart op left right = Unit {0}

-- the facts are those of an expression such that a node with it on the left and this one on the right is formed
abbrev pub IsLeftOf : List Facts → LogicOp → Expression → Facts → Type 0
IsLeftOf shared op u left = (t : Expression) × IsFormed (lent_columns shared) (two op t u) × AreFactsOf shared t left

-- f has the facts of a node over an expression with the facts on the left and this one on the right
abbrev pub AreFactsBeside : List Facts → LogicOp → Expression → Facts → Facts → Type 0
AreFactsBeside shared op u left f = (t : Expression) → IsFormed (lent_columns shared) (two op t u) → AreFactsOf shared t left → AreFactsOf shared (two op t u) f
