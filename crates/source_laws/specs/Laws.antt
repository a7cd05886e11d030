-- What holds of the part of a command and of those of its sources.
use Rattle.std.specs.Prelude.{◌≡◌, ℕ, ◌+◌, List, [], flat_map, sum_by, take, Option, Some, slice_get}
use Rattle.column_ranks.specs.Rising.{IsRising}
use Rattle.logical_dag.specs.Scripts.{scans_of}
use Rattle.placed_trees.specs.declared.command.Command.{Command}
use Rattle.placed_trees.specs.declared.statement.Statement.{Statement}
use Rattle.script_meaning.specs.Bound.{bound, mentions, parts_of}
use Rattle.script_meaning.specs.Dag.{part_at}
use Rattle.placed_trees.specs.declared.source.Stream.{Stream}
use Rattle.script_meaning.specs.Part.{Part, cols_at, scanned, referred}
use Rattle.script_meaning.specs.Placed.{IsCommandPlaced, IsPlaced}
use Rattle.script_meaning.specs.Within.{IsCommandWithin, IsWithin}
use Rattle.script_nodes.specs.Made.{over_parts}
use Rattle.script_nodes.specs.Over.{IsOver, fresh}
use Rattle.source_laws.specs.Sources.{source_parts, IsSameTree, scan_nodes, widths_at}

-- the statement at a place, the parts before it, and its own
pub record StandsAt (script : List Statement) (k : ℕ) (s : Statement) : Type 0 where
  pub there : slice_get script k ≡ Some s
  pub part : part_at (parts_of script) k ≡ bound (mentions [] script) (take k script) (take k (parts_of script)) s.command

-- each statement of a script has its part, by those before it
abbrev pub EachStands : Type 0
EachStands = (script : List Statement) (k : ℕ) (s : Statement) → slice_get script k ≡ Some s → StandsAt script k s

-- in a script that names what is there, and is within the limits, so does each of its statements
pub record IsStatementRight (script : List Statement) (k : ℕ) (s : Statement) : Type 0 where
  pub placed : IsCommandPlaced (mentions [] script) (take k script) (take k (parts_of script)) s.command
  pub within : IsCommandWithin s.name s.command

abbrev pub EachIsRight : Type 0
EachIsRight = (script : List Statement) → IsPlaced script → IsWithin script → (k : ℕ) (s : Statement) → slice_get script k ≡ Some s → IsStatementRight script k s

-- the part of a command is that of its node over its sources
abbrev pub IsOverSources : Type 0
IsOverSources = (all : List ℕ) (earlier : List Statement) (env : List Part) (c : Command)
    → IsSameTree (bound all earlier env c) (over_parts c (source_parts all earlier env c))

-- what it names is there, over the columns of its sources
abbrev pub NamesSources : Type 0
NamesSources = (all : List ℕ) (earlier : List Statement) (env : List Part) (name : Option (List ℕ)) (c : Command)
    → IsCommandPlaced all earlier env c → IsCommandWithin name c → IsOver c (widths_at (source_parts all earlier env c))

-- it numbers the columns of its sources and then its own
abbrev pub CountsSources : Type 0
CountsSources = (all : List ℕ) (earlier : List Statement) (env : List Part) (c : Command)
    → (bound all earlier env c).count ≡ sum_by (λ (p : Part). p.count) (source_parts all earlier env c) + fresh c

-- its scans, and the results it refers to, are those of its sources, one after the other, and so are the scan nodes of its tree
pub record TakesSources (all : List ℕ) (earlier : List Statement) (env : List Part) (c : Command) : Type 0 where
  pub scans : (bound all earlier env c).scans ≡ flat_map (λ (p : Part). p.scans) (source_parts all earlier env c)
  pub refs : (bound all earlier env c).refs ≡ flat_map (λ (p : Part). p.refs) (source_parts all earlier env c)
  pub nodes : (name : ℕ → ℕ) (n m : ℕ) → scans_of ((bound all earlier env c).tree name n m) ≡ scan_nodes name n m (source_parts all earlier env c)

abbrev pub EachTakes : Type 0
EachTakes = (all : List ℕ) (earlier : List Statement) (env : List Part) (c : Command) → TakesSources all earlier env c

-- the columns of a part ascend from the number at which it stands
abbrev pub Rises : Part → Type 0
Rises p = (c : ℕ) → IsRising c (cols_at p c) (c + p.count)

-- so do those of each part of a script, those of a scan and those of a reference
pub record EachRises : Type 0 where
  pub parts : (script : List Statement) (k : ℕ) → Rises (part_at (parts_of script) k)
  pub scans : (d : Stream) → Rises (scanned d)
  pub refs : (k : ℕ) (b : Part) → Rises (referred k b)
