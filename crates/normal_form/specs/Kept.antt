-- Which Dag is the normal form of another, and what it keeps.
use Rattle.std.specs.Prelude.{◌≡◌, ◌↔◌, ℕ, List, map, Option, All}
use Rattle.std.specs.List.{AllZip}
use Rattle.user_ops.specs.Told.{Operators}
use Rattle.logical_trees.specs.Tree.{tree_of}
use Rattle.logical_trees.specs.Rows.{Bag}
use Rattle.logical_dag.specs.declared.dag.ScanDecl.{ScanDecl}
use Rattle.logical_dag.specs.declared.dag.Output.{Output}
use Rattle.logical_dag.specs.declared.dag.Dag.{Dag}
use Rattle.logical_dag.specs.declared.dag.Stored.{Stored}
use Rattle.logical_dag.specs.Scripts.{shared_trees, output_trees, all_trees}
use Rattle.logical_dag.specs.DagMeaning.{orders_of, DagGives}
use Rattle.normal_meaning.specs.Sinking.{normal}
use Rattle.normal_meaning.specs.Normal.{IsNormal}

-- the names of the streams that are written
abbrev pub names_of : List Output → List (List ℕ)
names_of outputs = map (λ o. o.name) outputs

-- the bytes between their fields
abbrev pub delimiters_of : List Output → List ℕ
delimiters_of outputs = map (λ o. o.delimiter) outputs

-- how they are to be stored
abbrev pub stored_of : List Output → List (Option Stored)
stored_of outputs = map (λ o. o.stored) outputs

-- each tree is in its normal form, and all else is as it was
pub record IsNormalOf (old new : Dag) : Type 0 where
  pub scans : new.scans ≡ old.scans
  pub shared : shared_trees new ≡ map normal (shared_trees old)
  pub outputs : output_trees new ≡ map normal (output_trees old)
  pub names : names_of new.outputs ≡ names_of old.outputs
  pub delimiters : delimiters_of new.outputs ≡ delimiters_of old.outputs
  pub orders : orders_of new ≡ orders_of old
  pub stored : stored_of new.outputs ≡ stored_of old.outputs

-- both give the outputs the same rows, whatever the operators and the rows of the scans
abbrev pub GivesSame : Dag → Dag → Type 0
GivesSame old new = (ops : Operators) (input : ScanDecl → Bag) (rows : List Bag) → DagGives ops input old rows ↔ DagGives ops input new rows

-- each of its trees is in normal form
abbrev pub HasNormalTrees : Dag → Type 0
HasNormalTrees dag = All IsNormal (all_trees dag)

-- the output has its tree in normal form, and is as it was but for that
pub record IsOutputOf (old new : Output) : Type 0 where
  pub name : new.name ≡ old.name
  pub delimiter : new.delimiter ≡ old.delimiter
  pub order : new.order ≡ old.order
  pub stored : new.stored ≡ old.stored
  pub tree : tree_of new.tree ≡ normal (tree_of old.tree)

-- so does each, place by place
abbrev pub AreOutputsOf : List Output → List Output → Type 0
AreOutputsOf old new = AllZip IsOutputOf old new
