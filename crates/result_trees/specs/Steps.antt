-- How the sources of a statement come to stand. This serves the crate alone.
use Rattle.std.specs.Prelude.{◌≡◌, ◌<◌, ℕ, List, [], ◌++◌, map, flat_map, length, Some, IsSomeAnd}
use Rattle.logical_dag.specs.declared.dag.ScanDecl.{ScanDecl}
use Rattle.placed_trees.specs.declared.statement.Statement.{Statement}
use Rattle.result_sharing.specs.declared.origin.Origin.{Origin}
use Rattle.result_sharing.specs.Origins.{SourceOf, stream, result, part_of, source_now}
use Rattle.script_meaning.specs.Bound.{mentions, parts_of}
use Rattle.script_meaning.specs.Dag.{declared_all}
use Rattle.script_meaning.specs.Part.{Part}
use Rattle.script_meaning.specs.Placed.{IsStoredBelow}
use Rattle.script_meaning.specs.Within.{IsStoredFew}
use Rattle.script_nodes.specs.declared.made.Made.{Made}
use Rattle.script_nodes.specs.Made.{AreMade}
use Rattle.source_laws.specs.Sources.{scan_nodes}

-- a stream is stored by a few places that are there, and a result is that of a statement before this one
abbrev pub IsThere : ℕ → SourceOf → Type 0
IsThere at (stream d) = IsStoredFew d.stored × IsStoredBelow (length d.schema) d.stored
IsThere at (result i) = IsSomeAnd i (λ k. k < at)

-- what a source stands for in a script
abbrev pub part_in : List Statement → SourceOf → Part
part_in script s = part_of (mentions [] script) (parts_of script) s

-- a result, where it is read
abbrev pub read_in : List Statement → ℕ → Part
read_in script k = part_in script (result (Some k))

abbrev pub stand_for : List Statement → List Origin → List Part
stand_for script = map (λ o. part_in script (source_now o))

-- behind these scans, the trees of parts, each with its columns behind the one before it, and then their own scans
pub record AreSourcesMade (name : ℕ → ℕ) (c : ℕ) (parts : List Part) (before after : List ScanDecl) (mades : List Made) : Type 0 where
  pub made : AreMade name (length before) c parts mades
  pub scans : after ≡ before ++ declared_all (flat_map (λ p. p.scans) parts) (scan_nodes name (length before) c parts)
