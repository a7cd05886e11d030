-- The limits of the language that the bounds of a Dag, and its keys, rest on.
use Rattle.std.specs.Prelude.{◌≡◌, ◌<◌, ◌≤◌, ℕ, List, [], ◌∷◌, filter, length, Option, Some, None}
use Rattle.std.specs.List.{range_with_len}
use Rattle.col_sets.specs.declared.dir.Dir.{Dir}
use Rattle.logical_dag.specs.Bounds.{AreBounded}
use Rattle.placed_trees.specs.declared.command.Command.{Command}
use Rattle.placed_trees.specs.declared.command.Command.TheVariants.{Extract, Select, Process, Reduce, Combine, Output}
use Rattle.placed_trees.specs.declared.query.Beside.{Beside}
use Rattle.placed_trees.specs.declared.query.Beside.TheVariants.{Inners, Outer}
use Rattle.placed_trees.specs.declared.query.Grouping.{Grouping}
use Rattle.placed_trees.specs.declared.query.Joined.{Joined}
use Rattle.placed_trees.specs.declared.source.Source.{Source}
use Rattle.placed_trees.specs.declared.source.Source.TheVariants.{FromResult, FromStream}
use Rattle.placed_trees.specs.declared.source.StoredPlaces.{StoredPlaces}
use Rattle.placed_trees.specs.declared.statement.Statement.{Statement}
use Rattle.script_meaning.specs.Bound.{mentions, is_shared}
use Rattle.script_meaning.specs.Dag.{dag_of}

-- a key has one to four columns
abbrev pub IsFew : ℕ → Type 0
IsFew n = (0 < n) × (n ≤ 4)

abbrev pub IsOrderFew : Option (List (ℕ × Dir)) → Type 0
IsOrderFew None = Unit {0}
IsOrderFew (Some order) = IsFew (length order)

abbrev pub IsStoredFew : Option StoredPlaces → Type 0
IsStoredFew None = Unit {0}
IsStoredFew (Some s) = IsFew (length s.hash) × IsOrderFew s.sorted

abbrev pub IsSourceFew : Source → Type 0
IsSourceFew (FromResult i) = Unit {0}
IsSourceFew (FromStream d) = IsStoredFew d.stored

-- so do the equalities of a join
abbrev pub IsJoinFew : Joined → Type 0
IsJoinFew j = IsSourceFew j.source × IsFew (length j.on)

abbrev pub AreJoinsFew : List Joined → Type 0
AreJoinsFew [] = Unit {0}
AreJoinsFew (j ∷ joins) = IsJoinFew j × AreJoinsFew joins

-- a FROM has at most five sources
abbrev pub IsBesideFew : Beside → Type 0
IsBesideFew (Inners joins) = (length joins ≤ 4) × AreJoinsFew joins
IsBesideFew (Outer side call j) = IsJoinFew j

abbrev pub IsGroupingFew : Option Grouping → Type 0
IsGroupingFew None = Unit {0}
IsGroupingFew (Some g) = length g.written ≤ 4

-- a TOP has an ORDER BY
abbrev pub IsTopOrdered : Option ℕ → Option (List (ℕ × Dir)) → Type 0
IsTopOrdered None order = Unit {0}
IsTopOrdered (Some n) None = ⊥
IsTopOrdered (Some n) (Some order) = Unit {0}

-- and an OUTPUT no name
abbrev pub IsCommandWithin : Option (List ℕ) → Command → Type 0
IsCommandWithin name (Extract d) = IsStoredFew d.stored
IsCommandWithin name (Select q) = IsSourceFew q.source × IsBesideFew q.beside × IsGroupingFew q.group × IsOrderFew q.order × IsTopOrdered q.top q.order
IsCommandWithin name (Process source call) = IsSourceFew source
IsCommandWithin name (Reduce source on presort call) = IsSourceFew source × IsFew (length on) × IsOrderFew presort
IsCommandWithin name (Combine source before other after on call) = IsSourceFew source × IsOrderFew before × IsSourceFew other × IsOrderFew after × IsFew (length on)
IsCommandWithin name (Output w) = (name ≡ None) × IsStoredFew w.stored

abbrev pub AreWithin : List Statement → Type 0
AreWithin [] = Unit {0}
AreWithin (s ∷ rest) = IsCommandWithin s.name s.command × AreWithin rest

-- the numbers of the statements whose results are shared
abbrev pub shared_of : List Statement → List ℕ
shared_of script = filter (is_shared (mentions [] script)) (range_with_len 0 (length script))

-- the script is within the limits
pub record IsWithin (script : List Statement) : Type 0 where
  pub few : length script ≤ 64
  pub each : AreWithin script
  pub shares : length (shared_of script) ≤ 4

-- the Dag of such a script is within the bounds
abbrev pub GivesBounded : Type 0
GivesBounded = (script : List Statement) → IsWithin script → AreBounded (length (dag_of script).scans) (dag_of script).shared (dag_of script).outputs
