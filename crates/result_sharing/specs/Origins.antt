-- The sources of a command: each is a stream, or the result of a statement, where it is there.
use Rattle.std.specs.Prelude.{ℕ, List, [], ◌∷◌, ◌++◌, map, Option}
use Rattle.placed_trees.specs.declared.command.Command.{Command}
use Rattle.placed_trees.specs.declared.command.Command.TheVariants.{Extract, Select, Process, Reduce, Combine, Output}
use Rattle.placed_trees.specs.declared.query.Beside.{Beside}
use Rattle.placed_trees.specs.declared.query.Beside.TheVariants.{Inners, Outer}
use Rattle.placed_trees.specs.declared.source.Source.{Source}
use Rattle.placed_trees.specs.declared.source.Source.TheVariants.{FromResult, FromStream}
use Rattle.placed_trees.specs.declared.source.Stream.{Stream}
use Rattle.placed_trees.specs.declared.statement.Statement.{Statement}
use Rattle.placed_trees.specs.Inputs.{input_at}
use Rattle.script_meaning.specs.Bound.{placed, one_or_none}
use Rattle.script_meaning.specs.Part.{Part, scanned}
use Rattle.result_sharing.specs.declared.origin.Origin.{Origin}
use Rattle.result_sharing.specs.declared.origin.Origin.TheVariants as origin

pub data SourceOf : Type 0 where
  stream : Stream → SourceOf
  result : Option ℕ → SourceOf

abbrev pub source_of : List Statement → Source → SourceOf
source_of earlier (FromResult i) = result (input_at earlier i)
source_of earlier (FromStream d) = stream d

abbrev pub beside_of : List Statement → Beside → List SourceOf
beside_of earlier (Inners joins) = map (λ j. source_of earlier j.source) joins
beside_of earlier (Outer side call j) = source_of earlier j.source ∷ []

-- those of a command after these statements, from the left: an EXTRACT has its stream, and an OUTPUT its result
abbrev pub sources_of : List Statement → Command → List SourceOf
sources_of earlier (Extract d) = stream d ∷ []
sources_of earlier (Select q) = source_of earlier q.source ∷ beside_of earlier q.beside
sources_of earlier (Process source call) = source_of earlier source ∷ []
sources_of earlier (Reduce source on presort call) = source_of earlier source ∷ []
sources_of earlier (Combine source before other after on call) = source_of earlier source ∷ source_of earlier other ∷ []
sources_of earlier (Output w) = result (input_at earlier w.source) ∷ []

-- the mention of a result
abbrev pub mention_of : SourceOf → List ℕ
mention_of (stream d) = []
mention_of (result i) = one_or_none i

-- what a source stands for
abbrev pub part_of : List ℕ → List Part → SourceOf → Part
part_of all env (stream d) = scanned d
part_of all env (result i) = placed all env i

-- as the code holds it
abbrev pub source_now : Origin → SourceOf
source_now (origin.Stream d) = stream d.now
source_now (origin.Result i) = result i
