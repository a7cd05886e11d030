-- Which Dag has the scans, trees and outputs of a script.
use Rattle.std.specs.Prelude.{◌≡◌, map}
use Rattle.logical_dag.specs.declared.dag.Dag.{Dag}
use Rattle.logical_dag.specs.DagMeaning.{orders_of}
use Rattle.logical_dag.specs.Scripts.{shared_trees, output_trees}
use Rattle.script_meaning.specs.Dag.{ScriptDag}

pub record Shows (d : ScriptDag) (dag : Dag) : Type 0 where
  pub scans : dag.scans ≡ d.scans
  pub shared : shared_trees dag ≡ d.shared
  pub streams : map (λ o. o.name) dag.outputs ≡ d.streams
  pub delimiters : map (λ o. o.delimiter) dag.outputs ≡ d.delimiters
  pub orders : orders_of dag ≡ d.orders
  pub stored : map (λ o. o.stored) dag.outputs ≡ d.stored
  pub outputs : output_trees dag ≡ d.outputs
