-- Which operators are there.
use Rattle.std.specs.Prelude.{◌≡◌, ◌<◌, ℕ, List, length, Some, All}
use Rattle.user_ops.specs.Told.{Operators}
use Rattle.outer_joins.specs.declared.side.Side.{Side}
use Rattle.names_in_sight.specs.Operators.{place_in, outer_name}
use Rattle.logical_dag.specs.declared.dag.ScanDecl.{ScanDecl}
use Rattle.placed_trees.specs.declared.command.Command.{Command}
use Rattle.placed_trees.specs.declared.command.Command.TheVariants.{Extract, Select, Process, Reduce, Combine, Output}
use Rattle.placed_trees.specs.declared.query.Beside.{Beside}
use Rattle.placed_trees.specs.declared.query.Beside.TheVariants.{Inners, Outer}
use Rattle.placed_trees.specs.declared.source.Source.{Source}
use Rattle.placed_trees.specs.declared.source.Source.TheVariants.{FromResult, FromStream}
use Rattle.script_meaning.specs.Laws.{TellsOuter}

-- what is called by the name of a combiner of outer joins tells what that combiner tells
abbrev pub TellsOuterJoins : Operators → Type 0
TellsOuterJoins ops = (side : Side) (place : ℕ) → place_in ops.combiner_names (outer_name side) ≡ Some place → TellsOuter ops place side

-- ---- the operators that statements call are there

abbrev pub IsSourceThere : Operators → Source → Type 0
IsSourceThere ops (FromResult i) = Unit {0}
IsSourceThere ops (FromStream d) = d.op < length ops.extractors

abbrev pub IsBesideThere : Operators → Beside → Type 0
IsBesideThere ops (Inners joins) = All (λ j. IsSourceThere ops j.source) joins
IsBesideThere ops (Outer side call j) = (call.op < length ops.combiners) × IsSourceThere ops j.source

abbrev pub IsCommandThere : Operators → Command → Type 0
IsCommandThere ops (Extract d) = d.op < length ops.extractors
IsCommandThere ops (Select q) = IsSourceThere ops q.source × IsBesideThere ops q.beside
IsCommandThere ops (Process source call) = (call.op < length ops.processors) × IsSourceThere ops source
IsCommandThere ops (Reduce source on presort call) = (call.op < length ops.reducers) × IsSourceThere ops source
IsCommandThere ops (Combine source before other after on call) = (call.op < length ops.combiners) × IsSourceThere ops source × IsSourceThere ops other
IsCommandThere ops (Output w) = Unit {0}

-- and the extractors that scans name
abbrev pub AreScansThere : Operators → List ScanDecl → Type 0
AreScansThere ops scans = All (λ d. d.op < length ops.extractors) scans
