-- What the trees of a script are made of, one after the other. This serves the crate alone.
use Rattle.std.specs.Prelude.{◌≡◌, ℕ, List, [], ◌∷◌, ◌++◌, map, flat_map, take, length, Option, Some, None, slice_get, option_map}
use Rattle.std.specs.Option.{option_map_or}
use Rattle.col_sets.specs.declared.dir.Dir.{Dir}
use Rattle.logical_dag.specs.declared.dag.DagParts.{DagParts}
use Rattle.logical_dag.specs.declared.dag.Output.{Output as Written}
use Rattle.logical_dag.specs.declared.dag.ScanDecl.{ScanDecl}
use Rattle.logical_dag.specs.Scripts.{scans_of}
use Rattle.logical_trees.specs.Tree.{Expression, tree_of}
use Rattle.placed_trees.specs.declared.command.Command.{Command}
use Rattle.placed_trees.specs.declared.command.Command.TheVariants.{Select, Output}
use Rattle.placed_trees.specs.declared.command.Written as placed
use Rattle.placed_trees.specs.declared.statement.Statement.{Statement}
use Rattle.placed_trees.specs.Inputs.{input_at}
use Rattle.script_meaning.specs.Bound.{parts_of}
use Rattle.script_meaning.specs.Dag.{ScriptDag, part_at, scans_of_all, trees_from, declared_all, stream_at, delimiter_at, column_order, column_stored}
use Rattle.script_meaning.specs.Meaning.{unless_stored}
use Rattle.script_nodes.specs.declared.made.Made.{Made}

-- ---- the order of an OUTPUT, by place

abbrev pub order_in_command : Command → Option (List (ℕ × Dir))
order_in_command (Select q) = q.order
order_in_command c = None

abbrev pub order_of_result : List Statement → Option ℕ → Option (List (ℕ × Dir))
order_of_result script None = None
order_of_result script (Some k) = option_map_or (λ s. order_in_command s.command) (slice_get script k) None

-- none where it is stored, else that of the statement whose result it writes
abbrev pub order_written : List Statement → ℕ → placed.Written → Option (List (ℕ × Dir))
order_written script k w = unless_stored w.stored (order_of_result script (input_at (take k script) w.source))

-- ---- an output

abbrev pub HasOutput : List Statement → ℕ → Type 0
HasOutput script k = (w : placed.Written) × (option_map (λ s. s.command) (slice_get script k) ≡ Some (Output w))

-- all but the tree
pub record IsOutput (script : List Statement) (k : ℕ) (o : Written) : Type 0 where
  pub name : o.name ≡ stream_at script k
  pub delimiter : o.delimiter ≡ delimiter_at script k
  pub order : o.order ≡ column_order (part_at (parts_of script) k)
  pub stored : o.stored ≡ column_stored (part_at (parts_of script) k)

pub record IsOutputOf (script : List Statement) (k : ℕ) (m : Made) (o : Written) : Type 0 where
  pub says : IsOutput script k o
  pub tree : o.tree ≡ m.tree

-- ---- trees, with their scans behind those before

pub record IsTreeMade (script : List Statement) (name : ℕ → ℕ) (k : ℕ) (before after : List ScanDecl) (t : Expression) : Type 0 where
  pub tree : t ≡ (part_at (parts_of script) k).tree name (length before) 0
  pub scans : after ≡ before ++ declared_all (part_at (parts_of script) k).scans (scans_of t)

pub record AreTreesMade (script : List Statement) (name : ℕ → ℕ) (ks : List ℕ) (before after : List ScanDecl) (made : List Expression) : Type 0 where
  pub trees : made ≡ trees_from name (parts_of script) (length before) ks
  pub scans : after ≡ before ++ declared_all (scans_of_all (parts_of script) ks) (flat_map scans_of made)

pub record IsOutputMade (script : List Statement) (name : ℕ → ℕ) (k : ℕ) (before after : List ScanDecl) (o : Written) : Type 0 where
  pub says : IsOutput script k o
  pub made : IsTreeMade script name k before after (tree_of o.tree)

abbrev pub AreOutputs : List Statement → List ℕ → List Written → Type 0
AreOutputs script [] [] = Unit {0}
AreOutputs script (k ∷ ks) (o ∷ os) = IsOutput script k o × AreOutputs script ks os
AreOutputs script ks os = ⊥

-- ---- all of them

-- the parts of a Dag that has the scans, trees and outputs of a script
pub record ShowsParts (d : ScriptDag) (parts : DagParts) : Type 0 where
  pub scans : parts.scans ≡ d.scans
  pub shared : map tree_of parts.shared ≡ d.shared
  pub streams : map (λ o. o.name) parts.outputs ≡ d.streams
  pub delimiters : map (λ o. o.delimiter) parts.outputs ≡ d.delimiters
  pub orders : map (λ o. o.order) parts.outputs ≡ d.orders
  pub stored : map (λ o. o.stored) parts.outputs ≡ d.stored
  pub outputs : map (λ o. tree_of o.tree) parts.outputs ≡ d.outputs
