-- What binding promises of the trees of a Dag.
use Rattle.std.specs.Prelude.{◌≡◌, ℕ, List, [], ◌∷◌, ◌++◌, map, flat_map, take, length, Option, None, slice_get, IfSome, All}
use Rattle.std.specs.List.{range_with_len}
use Rattle.col_sets.specs.declared.dir.Dir.{Dir}
use Rattle.logical_dag.specs.declared.dag.ScanDecl.{ScanDecl}
use Rattle.logical_dag.specs.declared.dag.Stored.{Stored}
use Rattle.logical_dag.specs.Scripts.{scans_of, IsWritten, IsStoredOver, IsScanOver}
use Rattle.logical_trees.specs.Tree.{Expression, columns_of}
use Rattle.logical_trees.specs.Rows.{order_of}
use Rattle.logical_trees.specs.Formed.{IsOrderOver}
use Rattle.placed_trees.specs.declared.statement.Statement.{Statement}
use Rattle.script_meaning.specs.Placed.{IsPlaced}
use Rattle.script_meaning.specs.Dag.{ScriptDag, dag_of}
use Rattle.script_meaning.specs.Laws.{FitsColumns}

-- each scan is over the columns of its node
abbrev pub AreScansOver : List ScanDecl → List (ℕ × List ℕ) → Type 0
AreScansOver [] [] = Unit {0}
AreScansOver (d ∷ scans) (s ∷ nodes) = IsScanOver s.1 d × AreScansOver scans nodes
AreScansOver scans nodes = ⊥

-- what each output is ordered by, or stored by, is among its columns
abbrev pub AreOutputsOver : List (Option (List (ℕ × Dir))) → List (Option Stored) → List Expression → Type 0
AreOutputsOver [] [] [] = Unit {0}
AreOutputsOver (o ∷ orders) (s ∷ stored) (t ∷ trees) =
    (IsOrderOver (columns_of t) (order_of o) × IsStoredOver (columns_of t) s × IfSome s (λ by. o ≡ None)) × AreOutputsOver orders stored trees
AreOutputsOver orders stored trees = ⊥

-- each tree is written, a shared one refers to earlier ones alone, the scans are numbered through the trees in post-order,
-- and each scan and each output is over the columns of its node; a stored output has no order
pub record IsBindable (d : ScriptDag) : Type 0 where
  pub earlier : (i : ℕ) → IfSome (slice_get d.shared i) (IsWritten (take i (map columns_of d.shared)))
  pub all : All (IsWritten (map columns_of d.shared)) d.outputs
  pub numbered : map (λ s. s.0) (flat_map scans_of (d.shared ++ d.outputs)) ≡ range_with_len 0 (length d.scans)
  pub declared : AreScansOver d.scans (flat_map scans_of (d.shared ++ d.outputs))
  pub over : AreOutputsOver d.orders d.stored d.outputs

-- the Dag of a script that names what is there is one that binding can give
abbrev pub GivesBindable : Type 0
GivesBindable = (script : List Statement) → FitsColumns script → IsPlaced script → IsBindable (dag_of script)
