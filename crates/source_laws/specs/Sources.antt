-- What the sources of a command stand for, from the left, and what the command's own part takes from them.
use Rattle.std.specs.Prelude.{◌≡◌, ℕ, ◌+◌, List, [], ◌∷◌, ◌++◌, map, length}
use Rattle.logical_dag.specs.Scripts.{scans_of}
use Rattle.placed_trees.specs.declared.command.Command.{Command}
use Rattle.placed_trees.specs.declared.command.Command.TheVariants.{Extract, Select, Process, Reduce, Combine, Output}
use Rattle.placed_trees.specs.declared.query.Beside.{Beside}
use Rattle.placed_trees.specs.declared.query.Beside.TheVariants.{Inners, Outer}
use Rattle.placed_trees.specs.declared.statement.Statement.{Statement}
use Rattle.placed_trees.specs.Inputs.{input_at}
use Rattle.script_meaning.specs.Bound.{placed, source_part}
use Rattle.script_meaning.specs.Part.{Part, scanned}

abbrev pub beside_sources : List ℕ → List Statement → List Part → Beside → List Part
beside_sources all earlier env (Inners joins) = map (λ j. source_part all earlier env j.source) joins
beside_sources all earlier env (Outer side call j) = source_part all earlier env j.source ∷ []

-- an EXTRACT has its stream as its one source, and an OUTPUT its result
abbrev pub source_parts : List ℕ → List Statement → List Part → Command → List Part
source_parts all earlier env (Extract d) = scanned d ∷ []
source_parts all earlier env (Select q) = source_part all earlier env q.source ∷ beside_sources all earlier env q.beside
source_parts all earlier env (Process source call) = source_part all earlier env source ∷ []
source_parts all earlier env (Reduce source on presort call) = source_part all earlier env source ∷ []
source_parts all earlier env (Combine source before other after on call) = source_part all earlier env source ∷ source_part all earlier env other ∷ []
source_parts all earlier env (Output w) = placed all env (input_at earlier w.source) ∷ []

-- the same tree over the same columns, scans and results, whatever is said of order and of how rows are stored
pub record IsSameTree (p q : Part) : Type 0 where
  pub cols : p.cols ≡ q.cols
  pub count : p.count ≡ q.count
  pub scans : p.scans ≡ q.scans
  pub refs : p.refs ≡ q.refs
  pub tree : p.tree ≡ q.tree

-- the scan nodes of parts that stand one behind the other
abbrev pub scan_nodes : (ℕ → ℕ) → ℕ → ℕ → List Part → List (ℕ × List ℕ)
scan_nodes name s c [] = []
scan_nodes name s c (p ∷ parts) = scans_of (p.tree name s c) ++ scan_nodes name (s + length p.scans) (c + p.count) parts

abbrev pub widths_at : List Part → List ℕ
widths_at = map (λ p. length p.cols)
