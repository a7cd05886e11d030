-- The trees of a typed Dag are typed in a run whose streams have rows that fit their schemas.
use Rattle.std.specs.Prelude.{◌≡◌, ℕ, List, map, slice_get, IfSome, IsSomeAnd}
use Rattle.scope_value.specs.declared.schema.ColType.{ColType}
use Rattle.scope_value.specs.Fits.{RowFits}
use Rattle.col_sets.specs.Sets.{IsColumnSet}
use Rattle.structural_props.specs.Actions.{In}
use Rattle.structural_props.specs.Parts.{joined}
use Rattle.logical_trees.specs.Rows.{Row}
use Rattle.logical_trees.specs.Tree.{Expression, columns_of}
use Rattle.logical_trees.specs.Types.{Typing}
use Rattle.logical_dag.specs.declared.dag.ScanDecl.{ScanDecl}
use Rattle.logical_dag.specs.Scripts.{IsWritten}
use Rattle.logical_dag.specs.Typed.{IsTreeTyped}
use Rattle.parts_nodes.specs.Frame.{Setting}
use Rattle.parts_plans.specs.Plans.{parts_at}
use Rattle.run_types.specs.Typed.{fit_columns, Lent, results_of, IsTyped}

-- the rows of each scan fit its schema
abbrev pub AreScansFit : Setting → List ScanDecl → Type 0
AreScansFit w scans = (i : ℕ) → IfSome (slice_get scans i) (λ scan. (r : Row) → In r (joined (parts_at w.scans i)) → RowFits scan.schema r)

-- the rows of a shared tree fit all its columns, which have these types
pub record HasTypes (kinds : List ColType) (q : Lent) : Type 0 where
  pub set : IsColumnSet (columns_of q.expr)
  pub whole : fit_columns q.expr ≡ columns_of q.expr
  pub typed : map q.types (columns_of q.expr) ≡ kinds

-- and so those of each shared tree that a Dag's trees may refer to
abbrev pub AreLentOf : List (List ColType) → List Lent → Type 0
AreLentOf results lents = (i : ℕ) → IfSome (slice_get results i) (λ kinds. IsSomeAnd (slice_get lents i) (HasTypes kinds))

-- then a tree as binding gives it, that is typed as one of the Dag, is typed in the run
abbrev pub IsTypedAsOfDag : Type 0
IsTypedAsOfDag = (w : Setting) (scans : List ScanDecl) (results : List (List ColType)) (lents : List Lent) (types : Typing) (t : Expression) → AreScansFit w scans → AreLentOf results lents
    → IsWritten (results_of lents) t → IsTreeTyped w.ops scans results types t → IsTyped w lents types t

-- and its rows fit all its columns
abbrev pub IsWholeAsOfDag : Type 0
IsWholeAsOfDag = (results : List (List ℕ)) (t : Expression) → IsWritten results t → fit_columns t ≡ columns_of t
