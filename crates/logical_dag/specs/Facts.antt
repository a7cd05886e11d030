-- The facts of an expression: what is known of the rows of each bag that stands for it.
use Rattle.std.specs.Prelude.{◌≡◌, ◌≢◌, ◌↔◌, ◌⊎◌, ◌<◌, ℕ, Bool, true, false, if◌then◌else◌, List, [], slice_get, position, nat_eq, Option, Some, None, IsSomeAnd, IsSome, Contains, Any}
use Rattle.std.specs.Option.{option_and_then, option_map_or}
use Rattle.col_sets.specs.Sets.{has, rank}
use Rattle.script_trees.specs.declared.op.PairOp.TheVariants.{And, Eq}
use Rattle.scope_expr.specs.declared.expr.Expr.{Expr, end_of-Expr, more_of-Expr}
use Rattle.scope_expr.specs.declared.expr.Expr.TheVariants.{Literal, Col, Pair'}
use Rattle.fd_closure.specs.declared.facts.Facts.{Facts}
use Rattle.fd_closure.specs.Known.{by_of, equal_of}
use Rattle.logical_trees.specs.declared.args.GroupArgs.{GroupArgs}
use Rattle.logical_trees.specs.declared.logic_op.LogicOp.{LogicOp}
use Rattle.logical_trees.specs.declared.logic_op.LogicOp.TheVariants.{Ref, Filter, Project, Join, Group, Process, Reduce, Partial, Finish}
use Rattle.logical_trees.specs.Tree.{Expression, leaf, one, two, columns_of}

-- columns that a chain of stated equalities links
pub data IsLinked (Stated : ℕ → ℕ → Type 0) : ℕ → ℕ → Type 0 where
  stated : {c d : ℕ} → Stated c d → IsLinked Stated c d
  itself : {c : ℕ} → IsLinked Stated c c
  turned : {c d : ℕ} → IsLinked Stated c d → IsLinked Stated d c
  chained : {c d e : ℕ} → IsLinked Stated c d → IsLinked Stated d e → IsLinked Stated c e

-- some conjunct of the predicate, whose `&&` are taken apart, has the property
abbrev pub SomeConjunct : (Expr → Type 0) → Expr → Type 0
SomeConjunct P (Pair' And s (more_of-Expr a end_of-Expr) t (more_of-Expr b end_of-Expr)) = SomeConjunct P a ⊎ SomeConjunct P b
SomeConjunct P e = P e

-- the expression is an equation of two sides that are so related
abbrev pub Equates : (Expr → Expr → Type 0) → Expr → Type 0
Equates R (Pair' Eq s (more_of-Expr a end_of-Expr) t (more_of-Expr b end_of-Expr)) = R a b
Equates R e = ⊥

-- one side is the column and the other a literal
abbrev pub IsColumnAndLiteral : ℕ → Expr → Expr → Type 0
IsColumnAndLiteral c (Col d kind) (Literal v) = c ≡ d
IsColumnAndLiteral c (Literal v) (Col d kind) = c ≡ d
IsColumnAndLiteral c a b = ⊥

-- the sides are the columns
abbrev pub AreColumns : ℕ → ℕ → Expr → Expr → Type 0
AreColumns c d (Col a j) (Col b k) = (c ≡ a) × (d ≡ b)
AreColumns c d a b = ⊥

-- the predicate has a conjunct `c == literal`
abbrev pub SetsConstant : Expr → ℕ → Type 0
SetsConstant e c = SomeConjunct (Equates (IsColumnAndLiteral c)) e

-- the predicate has a conjunct `c == d`
abbrev pub SetsEqual : Expr → ℕ → ℕ → Type 0
SetsEqual e c d = SomeConjunct (Equates (AreColumns c d)) e

-- the expression is the plain column
abbrev pub is_column : ℕ → Expr → Bool
is_column c (Col d kind) = nat_eq c d
is_column c e = false

-- the expression is a literal
abbrev pub is_literal : Expr → Bool
is_literal (Literal v) = true
is_literal e = false

-- the column of a shared result under its name in a Ref: its columns one by one
abbrev pub ref_name : List ℕ → List ℕ → ℕ → Option ℕ
ref_name result cols c = if has result c then slice_get cols (rank result c) else None

-- a column under its name above a Project: the first item that is this column
abbrev pub item_name : List Expr → List ℕ → ℕ → Option ℕ
item_name items cols c = option_and_then (slice_get cols) (position (is_column c) items)

-- a column under its name above a Group: the column itself, where it is one of the key
abbrev pub key_name : List ℕ → ℕ → Option ℕ
key_name keys c = if has keys c then Some c else None

-- a fact of one column, the column renamed
abbrev pub Renamed : (ℕ → Option ℕ) → (ℕ → Type 0) → ℕ → Type 0
Renamed name P c = (b : ℕ) × P b × (name b ≡ Some c)

-- a fact of two columns, both renamed
abbrev pub BothRenamed : (ℕ → Option ℕ) → (ℕ → ℕ → Type 0) → ℕ → ℕ → Type 0
BothRenamed name R c d = (a b : ℕ) × R a b × (name a ≡ Some c) × (name b ≡ Some d)

-- s has just the new names of the columns of r, each of which has one
pub record IsRenamedSet (name : ℕ → Option ℕ) (r s : List ℕ) : Type 0 where
  pub all : (c : ℕ) → has r c ≡ true → IsSome (name c)
  pub just : (d : ℕ) → (has s d ≡ true) ↔ Renamed name (λ c. has r c ≡ true) d

-- a dependency, all its columns renamed
abbrev pub DependencyRenamed : (ℕ → Option ℕ) → (List ℕ → ℕ → Type 0) → List ℕ → ℕ → Type 0
DependencyRenamed name D s c = (r : List ℕ) × (b : ℕ) × D r b × (name b ≡ Some c) × IsRenamedSet name r s

-- the column is one of an aggregate
abbrev pub IsAggregate : GroupArgs → ℕ → Type 0
IsAggregate args c = Any (λ a. a.id ≡ c) args.aggs

-- two items are one plain column
abbrev pub AreSameItem : List Expr → List ℕ → ℕ → ℕ → Type 0
AreSameItem items cols c d =
    (i j b : ℕ) × (slice_get cols i ≡ Some c) × (slice_get cols j ≡ Some d)
    × IsSomeAnd (slice_get items i) (λ e. is_column b e ≡ true) × IsSomeAnd (slice_get items j) (λ e. is_column b e ≡ true)

-- the facts that are lent for a shared result
abbrev pub Lent : List Facts → ℕ → (Facts → Type 0) → Type 0
Lent shared i P = IsSomeAnd (slice_get shared i) P

-- the columns of a result by its facts
abbrev pub result_columns : List Facts → ℕ → List ℕ
result_columns shared i = option_map_or (λ f. f.columns) (slice_get shared i) []

-- ---- the table, by kind of node

-- the name above a node of a column of the rows below it, where it keeps its values
abbrev pub name_above : LogicOp → ℕ → Option ℕ
name_above (Project items cols) = item_name items cols
name_above (Group args) = key_name args.keys
name_above (Partial args) = key_name args.keys
name_above (Finish args) = key_name args.keys
name_above (Process call) = λ c. None
name_above (Reduce call on presort) = λ c. None
name_above op = Some

-- the node makes the column constant
abbrev pub MakesConstant : LogicOp → ℕ → Type 0
MakesConstant (Filter e) c = SetsConstant e c
MakesConstant (Project items cols) c = (i : ℕ) × (slice_get cols i ≡ Some c) × IsSomeAnd (slice_get items i) (λ e. is_literal e ≡ true)
MakesConstant (Group args) c = (args.keys ≡ []) × IsAggregate args c
MakesConstant (Finish args) c = (args.keys ≡ []) × IsAggregate args c
MakesConstant op c = ⊥

-- it makes the column depend on the others
abbrev pub MakesDependent : LogicOp → List ℕ → ℕ → Type 0
MakesDependent (Group args) s c = (args.keys ≢ []) × (s ≡ args.keys) × IsAggregate args c
MakesDependent (Finish args) s c = (args.keys ≢ []) × (s ≡ args.keys) × IsAggregate args c
MakesDependent op s c = ⊥

-- it makes the columns equal
abbrev pub MakesEqual : LogicOp → ℕ → ℕ → Type 0
MakesEqual (Filter e) c d = SetsEqual e c d
MakesEqual (Project items cols) c d = AreSameItem items cols c d
MakesEqual op c d = ⊥

-- all rows have one value in the column
abbrev pub IsConstant : List Facts → Expression → ℕ → Type 0
IsConstant shared (leaf (Ref i cols)) c = Renamed (ref_name (result_columns shared i) cols) (λ b. Lent shared i (λ f. has f.constants b ≡ true)) c
IsConstant shared (leaf op) c = ⊥
IsConstant shared (one op t) c = Renamed (name_above op) (IsConstant shared t) c ⊎ MakesConstant op c
IsConstant shared (two (Join on) t u) c = IsConstant shared t c ⊎ IsConstant shared u c
IsConstant shared (two op t u) c = ⊥

-- rows that agree on s agree on the column
abbrev pub Determines : List Facts → Expression → List ℕ → ℕ → Type 0
Determines shared (leaf (Ref i cols)) s c =
    DependencyRenamed (ref_name (result_columns shared i) cols) (λ r b. Lent shared i (λ f. (has f.determined b ≡ true) × (r ≡ by_of f b))) s c
Determines shared (leaf op) s c = ⊥
Determines shared (one op t) s c = DependencyRenamed (name_above op) (Determines shared t) s c ⊎ MakesDependent op s c
Determines shared (two (Join on) t u) s c = Determines shared t s c ⊎ Determines shared u s c
Determines shared (two op t u) s c = ⊥

-- it is stated that the columns are equal
abbrev pub IsStatedEqual : List Facts → Expression → ℕ → ℕ → Type 0
IsStatedEqual shared (leaf (Ref i cols)) c d = BothRenamed (ref_name (result_columns shared i) cols) (λ a b. Lent shared i (λ f. equal_of f a b ≡ true)) c d
IsStatedEqual shared (leaf op) c d = ⊥
IsStatedEqual shared (one op t) c d = BothRenamed (name_above op) (IsLinked (IsStatedEqual shared t)) c d ⊎ MakesEqual op c d
IsStatedEqual shared (two (Join on) t u) c d = IsLinked (IsStatedEqual shared t) c d ⊎ (IsLinked (IsStatedEqual shared u) c d ⊎ Contains on.items (c, d))
IsStatedEqual shared (two op t u) c d = ⊥

-- each row has one value in both columns; each column is equal to itself
abbrev pub AreEqual : List Facts → Expression → ℕ → ℕ → Type 0
AreEqual shared t = IsLinked (IsStatedEqual shared t)

-- the facts are those of the expression, where these are lent for the shared results
pub record AreFactsOf (shared : List Facts) (t : Expression) (f : Facts) : Type 0 where
  pub columns : f.columns ≡ columns_of t
  pub constants : (c : ℕ) → c < 128 → (has f.constants c ≡ true) ↔ IsConstant shared t c
  pub stated : (c : ℕ) → c < 128 → has f.determined c ≡ true → Determines shared t (by_of f c) c
  pub all : (s : List ℕ) (c : ℕ) → Determines shared t s c → (has f.determined c ≡ true) × ((d : ℕ) → has s d ≡ has (by_of f c) d)
  pub equal : (c d : ℕ) → c < 128 → d < 128 → (equal_of f c d ≡ true) ↔ AreEqual shared t c d
