-- The statements of a script as parts: results that are mentioned twice are shared, others stand in their consumer.
use Rattle.std.specs.Prelude.{ℕ, ◌==◌, nat_le, count_by, Bool, true, false, List, [], ◌∷◌, ◌++◌, flat_map, Option, Some, None, slice_get}
use Rattle.placed_trees.specs.declared.command.Command.{Command}
use Rattle.placed_trees.specs.declared.command.Command.TheVariants.{Extract, Select, Process, Reduce, Combine, Output}
use Rattle.placed_trees.specs.declared.query.Beside.{Beside}
use Rattle.placed_trees.specs.declared.query.Beside.TheVariants.{Inners, Outer}
use Rattle.placed_trees.specs.declared.query.Joined.{Joined}
use Rattle.placed_trees.specs.declared.source.Source.{Source}
use Rattle.placed_trees.specs.declared.source.Source.TheVariants.{FromResult, FromStream}
use Rattle.placed_trees.specs.declared.statement.Statement.{Statement}
use Rattle.placed_trees.specs.Inputs.{input_at}
use Rattle.script_meaning.specs.Part.{Part, nothing, scanned, referred, joined_part, process_part, reduce_part, combine_part, query_part, stored_part}

-- the inputs of a command, an omitted one being None
abbrev pub source_inputs : Source → List (Option (List ℕ))
source_inputs (FromResult i) = i ∷ []
source_inputs (FromStream d) = []

abbrev pub beside_inputs : Beside → List (Option (List ℕ))
beside_inputs (Inners joins) = flat_map (λ j. source_inputs j.source) joins
beside_inputs (Outer side call j) = source_inputs j.source

abbrev pub inputs : Command → List (Option (List ℕ))
inputs (Extract d) = []
inputs (Select q) = source_inputs q.source ++ beside_inputs q.beside
inputs (Process source call) = source_inputs source
inputs (Reduce source on presort call) = source_inputs source
inputs (Combine source before other after on call) = source_inputs source ++ source_inputs other
inputs (Output w) = w.source ∷ []

abbrev pub one_or_none : Option ℕ → List ℕ
one_or_none None = []
one_or_none (Some k) = k ∷ []

-- each mention of a result, by the number of its statement
abbrev pub mentions : List Statement → List Statement → List ℕ
mentions earlier [] = []
mentions earlier (s ∷ rest) = flat_map (λ i. one_or_none (input_at earlier i)) (inputs s.command) ++ mentions (earlier ++ s ∷ []) rest

-- a result is shared where it is mentioned at least twice
abbrev pub is_shared : List ℕ → ℕ → Bool
is_shared all k = nat_le 2 (count_by (λ m. m == k) all)

abbrev pub stands : Bool → ℕ → Part → Part
stands true k b = referred k b
stands false k b = b

abbrev pub found : List ℕ → ℕ → Option Part → Part
found all k None = nothing
found all k (Some b) = stands (is_shared all k) k b

-- an input as it stands in its consumer
abbrev pub placed : List ℕ → List Part → Option ℕ → Part
placed all env None = nothing
placed all env (Some k) = found all k (slice_get env k)

abbrev pub source_part : List ℕ → List Statement → List Part → Source → Part
source_part all earlier env (FromResult i) = placed all env (input_at earlier i)
source_part all earlier env (FromStream d) = scanned d

abbrev pub from_part : List ℕ → List Statement → List Part → Part → List Joined → Part
from_part all earlier env a [] = a
from_part all earlier env a (j ∷ more) = from_part all earlier env (joined_part j.on a (source_part all earlier env j.source)) more

-- an outer join is a Combine on its equalities
abbrev pub beside_part : List ℕ → List Statement → List Part → Part → Beside → Part
beside_part all earlier env a (Inners joins) = from_part all earlier env a joins
beside_part all earlier env a (Outer side call j) = combine_part j.on None None call a (source_part all earlier env j.source)

abbrev pub bound : List ℕ → List Statement → List Part → Command → Part
bound all earlier env (Extract d) = scanned d
bound all earlier env (Select q) = query_part q (beside_part all earlier env (source_part all earlier env q.source) q.beside)
bound all earlier env (Process source call) = process_part call (source_part all earlier env source)
bound all earlier env (Reduce source on presort call) = reduce_part on presort call (source_part all earlier env source)
bound all earlier env (Combine source before other after on call) =
    combine_part on before after call (source_part all earlier env source) (source_part all earlier env other)
bound all earlier env (Output w) = stored_part w.stored (placed all env (input_at earlier w.source))

abbrev pub bound_from : List ℕ → List Statement → List Part → List Statement → List Part
bound_from all earlier env [] = env
bound_from all earlier env (s ∷ rest) = bound_from all (earlier ++ s ∷ []) (env ++ bound all earlier env s.command ∷ []) rest

-- the parts of all statements
abbrev pub parts_of : List Statement → List Part
parts_of script = bound_from (mentions [] script) [] [] script
