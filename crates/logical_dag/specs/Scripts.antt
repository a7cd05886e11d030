-- Which Dags are of a script.
use Rattle.std.specs.Prelude.{◌≡◌, ℕ, Bool, true, false, not, List, [], ◌∷◌, ◌++◌, map, flat_map, take, length, slice_get, Option, None, IfSome, IsSomeAnd, All}
use Rattle.std.specs.List.{range_with_len, list_all}
use Rattle.col_sets.specs.Sets.{count, within}
use Rattle.logical_dag.specs.declared.dag.Dag.{Dag}
use Rattle.logical_dag.specs.declared.dag.Output.{Output}
use Rattle.logical_dag.specs.declared.dag.ScanDecl.{ScanDecl}
use Rattle.logical_dag.specs.declared.dag.Stored.{Stored}
use Rattle.logical_trees.specs.declared.logic_op.LogicOp.{LogicOp}
use Rattle.logical_trees.specs.declared.logic_op.LogicOp.TheVariants.{Scan, Partial, Finish, LocalTop, LastTop}
use Rattle.logical_trees.specs.Tree.{Expression, leaf, one, two, tree_of, nodes, columns_of, IsNumbered}
use Rattle.logical_trees.specs.Rows.{order_of}
use Rattle.logical_trees.specs.Formed.{IsWhole, IsFormed, IsOrderOver}

-- the trees of the shared results
abbrev pub shared_trees : Dag → List Expression
shared_trees dag = map tree_of dag.shared

-- the trees of the outputs
abbrev pub output_trees : Dag → List Expression
output_trees dag = map (λ o. tree_of o.tree) dag.outputs

-- all trees, the shared ones first: a tree's number is its place in this list
abbrev pub all_trees : Dag → List Expression
all_trees dag = shared_trees dag ++ output_trees dag

-- what the top node of a tree does
abbrev pub top_of : Expression → LogicOp
top_of (leaf op) = op
top_of (one op t) = op
top_of (two op t u) = op

-- rules alone add nodes of this kind
abbrev pub is_step : LogicOp → Bool
is_step (Partial args) = true
is_step (Finish args) = true
is_step (LocalTop args) = true
is_step (LastTop args) = true
is_step op = false

-- the scan of a node, if it is one, with the columns that it gives
abbrev pub scan_of : LogicOp → List (ℕ × List ℕ)
scan_of (Scan scan cols) = (scan, cols) ∷ []
scan_of op = []

-- the scans of a tree in post-order
abbrev pub scans_of : Expression → List (ℕ × List ℕ)
scans_of t = flat_map (λ u. scan_of (top_of u)) (nodes t)

-- a tree as binding gives it, where the shared results that it may refer to have these columns
pub record IsWritten (results : List (List ℕ)) (t : Expression) : Type 0 where
  pub whole : IsWhole t
  pub plain : list_all (λ u. not (is_step (top_of u))) (nodes t) ≡ true
  pub formed : IsFormed results t
  pub numbered : IsNumbered t

-- what rows are declared to be stored by, where they are, is among the columns
abbrev pub IsStoredOver : List ℕ → Option Stored → Type 0
IsStoredOver cols stored = IfSome stored (λ s. (within s.hash cols ≡ true) × IsOrderOver cols (order_of s.sorted))

-- the columns of a scan are as many as those of its schema, and what it is stored by is among them
abbrev pub IsScanOver : List ℕ → ScanDecl → Type 0
IsScanOver cols scan = (length scan.schema ≡ count cols) × IsStoredOver cols scan.stored

-- what an output is ordered by, or stored by, is among its columns; a stored one has no order
abbrev pub IsOutputOver : List ℕ → Output → Type 0
IsOutputOver cols o = IsOrderOver cols (order_of o.order) × IsStoredOver cols o.stored × IfSome o.stored (λ s. o.order ≡ None)

-- a Dag that binding can give: each shared tree refers to earlier ones alone, the scans are numbered through the trees in
-- post-order, and each scan and each output is over the columns of its node
pub record IsBindable (dag : Dag) : Type 0 where
  pub shared : (i : ℕ) → IfSome (slice_get (shared_trees dag) i) (IsWritten (take i (map columns_of (shared_trees dag))))
  pub outputs : All (IsWritten (map columns_of (shared_trees dag))) (output_trees dag)
  pub scans : map (λ s. s.0) (flat_map scans_of (all_trees dag)) ≡ range_with_len 0 (length dag.scans)
  pub declared : All (λ s. IsSomeAnd (slice_get dag.scans s.0) (IsScanOver s.1)) (flat_map scans_of (all_trees dag))
  pub over : All (λ o. IsOutputOver (columns_of (tree_of o.tree)) o) dag.outputs
