-- Which Dags are typed: each column has a type, and each operator that is called is there and takes what it is given.
use Rattle.std.specs.Prelude.{◌≡◌, ◌≤◌, ℕ, true, List, map, length, slice_get, Some, IfSome, IsSomeAnd, MatchOption, All}
use Rattle.scope_value.specs.declared.schema.ColType.{ColType}
use Rattle.scope_value.specs.declared.schema.ColType.TheVariants.{Long}
use Rattle.script_trees.specs.declared.agg.AggKind.TheVariants.{Count}
use Rattle.scope_expr.specs.declared.expr.Expr.{Expr}
use Rattle.scope_expr.specs.Kinds.{kind_of, takes_truth, are_alike}
use Rattle.scope_expr.specs.Aggs.{takes_argument, kind_of_agg}
use Rattle.user_ops.specs.Told.{Operators, ToldProcessor, ToldReducer, ToldCombiner}
use Rattle.logical_trees.specs.declared.agg.Agg.{Agg}
use Rattle.logical_trees.specs.declared.logic_op.LogicOp.{LogicOp}
use Rattle.logical_trees.specs.declared.logic_op.LogicOp.TheVariants.{Scan, Ref, Filter, Project, Join, Group, Process, Reduce, Combine}
use Rattle.logical_trees.specs.Tree.{Expression, leaf, one, two, columns_of}
use Rattle.logical_trees.specs.Types.{Typing, IsExprOf, IsSchemaOf, TakesRows, TakesGroups, TakesPairs}
use Rattle.logical_dag.specs.declared.dag.ScanDecl.{ScanDecl}
use Rattle.logical_dag.specs.declared.dag.Dag.{Dag}
use Rattle.logical_dag.specs.Scripts.{shared_trees, output_trees}

-- the expression is typed, by these columns
abbrev pub IsExprTyped : Typing → List ℕ → Expr → Type 0
IsExprTyped types cols e = IsExprOf types cols (kind_of e) e

-- it is a predicate: a truth value, or NULL
abbrev pub IsTestTyped : Typing → List ℕ → Expr → Type 0
IsTestTyped types cols e = IsExprTyped types cols e × (takes_truth e ≡ true)

-- the items give values of the types of the new columns
abbrev pub AreItemsTyped : Typing → List ℕ → List Expr → List ℕ → Type 0
AreItemsTyped types cols items new = All (IsExprTyped types cols) items × (map kind_of items ≡ map types new)

-- the aggregate takes its argument and gives values of its column's type; COUNT(*) alone has no argument
abbrev pub IsAggTyped : Typing → List ℕ → Agg → Type 0
IsAggTyped types cols agg =
    MatchOption agg.arg
    ((agg.kind ≡ Count) × (types agg.id ≡ Long))
    (λ e. IsExprTyped types cols e × (takes_argument agg.kind e ≡ true) × (kind_of_agg agg.kind e ≡ types agg.id))

-- the columns of each pair are two numbers, two strings or two truth values
abbrev pub ArePairsTyped : Typing → List (ℕ × ℕ) → Type 0
ArePairsTyped types on = All (λ p. are_alike (types p.0) (types p.1) ≡ true) on

-- an operator is called with at most 16 args
abbrev pub AreFewArgs : List (List ℕ) → Type 0
AreFewArgs args = length args ≤ 16

-- the extractor of a scan is there and takes its schema, which is of these columns
pub record IsScanTyped (types : Typing) (ops : Operators) (cols : List ℕ) (scan : ScanDecl) : Type 0 where
  pub takes : IsSomeAnd (slice_get ops.extractors scan.op) (λ told. told.takes scan.schema scan.args ≡ true)
  pub of_schema : IsSchemaOf types cols scan.schema
  pub few : AreFewArgs scan.args

-- a node without children, where the results that may be referred to have columns of these types
abbrev pub IsLeafTyped : Operators → List ScanDecl → List (List ColType) → Typing → LogicOp → Type 0
IsLeafTyped ops scans results types (Scan scan cols) = IsSomeAnd (slice_get scans scan) (IsScanTyped types ops cols)
IsLeafTyped ops scans results types (Ref shared cols) = slice_get results shared ≡ Some (map types cols)
IsLeafTyped ops scans results types op = Unit {0}

-- a node over rows of these columns
abbrev pub IsOneTyped : Operators → Typing → List ℕ → LogicOp → Type 0
IsOneTyped ops types cols (Filter e) = IsTestTyped types cols e
IsOneTyped ops types cols (Project items new) = AreItemsTyped types cols items new
IsOneTyped ops types cols (Group args) = All (IsAggTyped types cols) args.aggs
IsOneTyped ops types cols (Process call) = ((told : ToldProcessor) × TakesRows types ops cols call told) × AreFewArgs call.args
IsOneTyped ops types cols (Reduce call on presort) = ((told : ToldReducer) × TakesGroups types ops cols call told) × AreFewArgs call.args
IsOneTyped ops types cols op = Unit {0}

-- a node over rows of these columns on the left and on the right
abbrev pub IsTwoTyped : Operators → Typing → List ℕ → List ℕ → LogicOp → Type 0
IsTwoTyped ops types left right (Join on) = ArePairsTyped types on.items
IsTwoTyped ops types left right (Combine call on before beside) =
    ArePairsTyped types on.items × ((told : ToldCombiner) × TakesPairs types ops left right call told) × AreFewArgs call.args
IsTwoTyped ops types left right op = Unit {0}

-- each node of a tree is typed, by one type for each column that the tree numbers
abbrev pub IsTreeTyped : Operators → List ScanDecl → List (List ColType) → Typing → Expression → Type 0
IsTreeTyped ops scans results types (leaf op) = IsLeafTyped ops scans results types op
IsTreeTyped ops scans results types (one op t) = IsTreeTyped ops scans results types t × IsOneTyped ops types (columns_of t) op
IsTreeTyped ops scans results types (two op t u) =
    IsTreeTyped ops scans results types t × IsTreeTyped ops scans results types u × IsTwoTyped ops types (columns_of t) (columns_of u) op

-- a Dag that is typed over a set of operators: each of its trees is, and the columns of the shared ones have these types
pub record IsTyped (ops : Operators) (dag : Dag) : Type 0 where
  pub results : List (List ColType)
  pub shared : (i : ℕ) → IfSome (slice_get (shared_trees dag) i)
      (λ t. (types : Typing) × IsTreeTyped ops dag.scans results types t × (slice_get results i ≡ Some (map types (columns_of t))))
  pub outputs : All (λ t. (types : Typing) × IsTreeTyped ops dag.scans results types t) (output_trees dag)
