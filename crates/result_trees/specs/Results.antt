-- The tree of a statement's result, where it stands.
use Rattle.std.specs.Prelude.{◌≡◌, ℕ, List, ◌++◌, length}
use Rattle.logical_dag.specs.declared.dag.ScanDecl.{ScanDecl}
use Rattle.logical_dag.specs.Scripts.{scans_of}
use Rattle.logical_trees.specs.Tree.{tree_of}
use Rattle.placed_trees.specs.declared.statement.Statement.{Statement}
use Rattle.script_meaning.specs.Bound.{parts_of}
use Rattle.script_meaning.specs.Dag.{part_at, declared_all}
use Rattle.script_meaning.specs.Laws.{FitsColumns}
use Rattle.script_meaning.specs.Part.{Part}
use Rattle.script_meaning.specs.Placed.{IsPlaced}
use Rattle.script_meaning.specs.Within.{IsWithin}
use Rattle.script_nodes.specs.declared.made.Made.{Made}
use Rattle.script_nodes.specs.Made.{IsMade}

-- the statements name what is there, are within the limits, and number few enough columns
pub record IsStanding (script : List Statement) : Type 0 where
  pub placed : IsPlaced script
  pub within : IsWithin script
  pub fits : FitsColumns script

-- behind these scans, the tree of a part with its columns from c on, and then its own scans, as they are declared at its scan nodes
pub record IsPartMade (name : ℕ → ℕ) (c : ℕ) (p : Part) (before after : List ScanDecl) (m : Made) : Type 0 where
  pub made : IsMade name (length before) c p m
  pub scans : after ≡ before ++ declared_all p.scans (scans_of (tree_of m.tree))

-- so it is of the result of a statement, with columns from 0 on
abbrev pub IsResultMade : List Statement → (ℕ → ℕ) → ℕ → List ScanDecl → List ScanDecl → Made → Type 0
IsResultMade script name k before after m = IsPartMade name 0 (part_at (parts_of script) k) before after m
