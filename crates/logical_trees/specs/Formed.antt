-- Which expressions are of a script: their kinds have their children, and they name columns that are there.
use Rattle.std.specs.Prelude.{◌≡◌, ◌≢◌, ◌<◌, ◌&&◌, ℕ, nat_eq, Bool, true, false, List, length, slice_get, Option, IfSome, IsSomeAnd, All, AllPairs}
use Rattle.col_sets.specs.declared.dir.Dir.{Dir}
use Rattle.col_sets.specs.Sets.{has, within, count, IsColumnSet}
use Rattle.scope_expr.specs.declared.expr.Expr.{Expr}
use Rattle.scope_expr.specs.Kinds.{EachColumn}
use Rattle.structural_props.specs.Rows.{range_columns}
use Rattle.logical_trees.specs.declared.args.GroupArgs.{GroupArgs}
use Rattle.logical_trees.specs.declared.args.CallArgs.{CallArgs}
use Rattle.logical_trees.specs.declared.args.TopArgs.{TopArgs}
use Rattle.logical_trees.specs.declared.logic_op.LogicOp.{LogicOp}
use Rattle.logical_trees.specs.declared.logic_op.LogicOp.TheVariants.{Scan, Ref, Filter, Project, Join, Group, Process, Reduce, Combine, Top, Partial, Finish, LocalTop, LastTop}
use Rattle.logical_trees.specs.Tree.{Expression, leaf, one, two, leaf_columns, columns_of}
use Rattle.logical_trees.specs.Rows.{order_of}

-- the kinds have their children; each Finish stands over a Partial with its args and each LastTop over a LocalTop with its
-- args, and these two stand nowhere else
abbrev mutual
  pub IsWhole : Expression → Type 0
  IsWhole (leaf (Scan scan cols)) = Unit {0}
  IsWhole (leaf (Ref shared cols)) = Unit {0}
  IsWhole (leaf op) = ⊥
  IsWhole (one (Filter e) t) = IsWhole t
  IsWhole (one (Project items cols) t) = IsWhole t
  IsWhole (one (Group args) t) = IsWhole t
  IsWhole (one (Process call) t) = IsWhole t
  IsWhole (one (Reduce call on presort) t) = IsWhole t
  IsWhole (one (Top args) t) = IsWhole t
  IsWhole (one (Finish args) t) = IsPartialOf args t
  IsWhole (one (LastTop args) t) = IsLocalTopOf args t
  IsWhole (one op t) = ⊥
  IsWhole (two (Join on) t u) = IsWhole t × IsWhole u
  IsWhole (two (Combine call on left right) t u) = IsWhole t × IsWhole u
  IsWhole (two op t u) = ⊥

  pub IsPartialOf : GroupArgs → Expression → Type 0
  IsPartialOf args (leaf op) = ⊥
  IsPartialOf args (one (Partial more) t) = (args ≡ more) × IsWhole t
  IsPartialOf args (one op t) = ⊥
  IsPartialOf args (two op t u) = ⊥

  pub IsLocalTopOf : TopArgs → Expression → Type 0
  IsLocalTopOf args (leaf op) = ⊥
  IsLocalTopOf args (one (LocalTop more) t) = (args ≡ more) × IsWhole t
  IsLocalTopOf args (one op t) = ⊥
  IsLocalTopOf args (two op t u) = ⊥

-- how many children a node of a kind has
abbrev pub arity : LogicOp → ℕ
arity (Scan scan cols) = 0
arity (Ref shared cols) = 0
arity (Join on) = 2
arity (Combine call on left right) = 2
arity op = 1

-- each node has as many children as its kind
abbrev pub has_children : Expression → Bool
has_children (leaf op) = nat_eq (arity op) 0
has_children (one op t) = nat_eq (arity op) 1 && has_children t
has_children (two op t u) = nat_eq (arity op) 2 && (has_children t && has_children u)

-- each column of the expression is among these
abbrev pub IsOver : List ℕ → Expr → Type 0
IsOver cols e = EachColumn (λ c kind. has cols c ≡ true) e

-- an aggregate's argument, where it has one, is over these columns
abbrev pub IsArgumentOver : List ℕ → Option Expr → Type 0
IsArgumentOver cols arg = IfSome arg (IsOver cols)

-- the columns of an order are among these
abbrev pub IsOrderOver : List ℕ → List (ℕ × Dir) → Type 0
IsOrderOver cols order = within (range_columns order) cols ≡ true

-- the key is a set of columns, and the aggregates give columns of their own, each another one
pub record IsGroup (args : GroupArgs) : Type 0 where
  pub key_set : IsColumnSet args.keys
  pub below : All (λ a. a.id < 128) args.aggs
  pub own : All (λ a. has args.keys a.id ≡ false) args.aggs
  pub different : AllPairs (λ a b. a.id ≢ b.id) args.aggs

-- the columns that a call gives are a set, one for each of its schema
pub record IsCall (call : CallArgs) : Type 0 where
  pub set : IsColumnSet call.cols
  pub whole : count call.cols ≡ length call.output

-- the columns on the left and on the right are apart, and at least one pair of them is set equal, each pair with one column
-- on each side
pub record IsJoin (left right : List ℕ) (on : List (ℕ × ℕ)) : Type 0 where
  pub apart : (c : ℕ) → has left c ≡ true → has right c ≡ true → ⊥
  pub some : 0 < length on
  pub sides : All (λ p. (has left p.0 ≡ true) × (has right p.1 ≡ true)) on

-- the columns that a node without children gives are a set, as many as those of the shared result that it refers to
abbrev pub IsLeafFormed : List (List ℕ) → LogicOp → Type 0
IsLeafFormed results (Ref shared cols) = IsColumnSet cols × IsSomeAnd (slice_get results shared) (λ result. count result ≡ count cols)
IsLeafFormed results op = IsColumnSet (leaf_columns op)

-- what a node over rows of these columns names is there
abbrev pub IsOneFormed : List ℕ → LogicOp → Type 0
IsOneFormed below (Filter e) = IsOver below e
IsOneFormed below (Project items cols) = IsColumnSet cols × (length items ≡ count cols) × All (IsOver below) items
IsOneFormed below (Group args) = IsGroup args × (within args.keys below ≡ true) × All (λ a. IsArgumentOver below a.arg) args.aggs
IsOneFormed below (Partial args) = IsGroup args × (within args.keys below ≡ true) × All (λ a. IsArgumentOver below a.arg) args.aggs
IsOneFormed below (Finish args) = IsGroup args
IsOneFormed below (Process call) = IsCall call
IsOneFormed below (Reduce call on presort) = IsCall call × (within on below ≡ true) × IsOrderOver below (order_of presort)
IsOneFormed below (Top args) = IsOrderOver below args.order
IsOneFormed below (LocalTop args) = IsOrderOver below args.order
IsOneFormed below (LastTop args) = IsOrderOver below args.order
IsOneFormed below op = Unit {0}

-- the same of a node over rows of these columns on the left and on the right
abbrev pub IsTwoFormed : List ℕ → List ℕ → LogicOp → Type 0
IsTwoFormed left right (Join on) = IsJoin left right on.items
IsTwoFormed left right (Combine call on before beside) =
    IsCall call × (0 < length on.items) × All (λ p. (has left p.0 ≡ true) × (has right p.1 ≡ true)) on.items
    × IsOrderOver left (order_of before) × IsOrderOver right (order_of beside)
IsTwoFormed left right op = Unit {0}

-- what each node names is there, where the shared results have these columns
abbrev pub IsFormed : List (List ℕ) → Expression → Type 0
IsFormed results (leaf op) = IsLeafFormed results op
IsFormed results (one op t) = IsFormed results t × IsOneFormed (columns_of t) op
IsFormed results (two op t u) = IsFormed results t × IsFormed results u × IsTwoFormed (columns_of t) (columns_of u) op
