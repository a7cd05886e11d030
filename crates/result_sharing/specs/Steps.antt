-- What is known of a result by those before it. This serves the crate alone.
use Rattle.std.specs.Prelude.{ℕ, ◌+◌, ◌||◌, if◌then◌else◌, List, [], ◌∷◌, ◌++◌, filter, length, Option, Some, None, slice_get}
use Rattle.std.specs.Option.{option_map_or}
use Rattle.std.specs.List.{range_with_len}
use Rattle.col_sets.specs.Sets.{has}
use Rattle.placed_trees.specs.declared.command.Command.{Command}
use Rattle.placed_trees.specs.declared.command.Command.TheVariants.{Extract, Select, Process, Reduce, Combine, Output}
use Rattle.placed_trees.specs.declared.statement.Statement.{Statement}
use Rattle.placed_trees.specs.Inputs.{input_at}
use Rattle.script_meaning.specs.Bound.{is_shared}
use Rattle.result_sharing.specs.Origins.{SourceOf, stream, result}

-- the width of an earlier result, and none where it isn't there
abbrev pub width_at : List ℕ → Option ℕ → ℕ
width_at widths None = 0
width_at widths (Some k) = option_map_or (λ n. n) (slice_get widths k) 0

-- how many columns a command gives, after statements of these widths
abbrev pub width_in : List Statement → List ℕ → Command → ℕ
width_in earlier widths (Extract d) = length d.schema
width_in earlier widths (Select q) = length q.items
width_in earlier widths (Process source call) = length call.output
width_in earlier widths (Reduce source on presort call) = length call.output
width_in earlier widths (Combine source before other after on call) = length call.output
width_in earlier widths (Output w) = width_at widths (input_at earlier w.source)

-- what a source refers to: a shared result to itself, another to what stands in it; `known` has what each earlier result refers to
abbrev pub result_refs : List ℕ → List (List ℕ) → ℕ → List ℕ
result_refs all known k = option_map_or (λ inside. if is_shared all k then k ∷ [] else inside) (slice_get known k) []

abbrev pub origin_refs : List ℕ → List (List ℕ) → SourceOf → List ℕ
origin_refs all known (stream d) = []
origin_refs all known (result None) = []
origin_refs all known (result (Some k)) = result_refs all known k

-- what a result refers to is reached, where the result is written or reached by later ones
abbrev pub reached_by : List ℕ → ℕ → List ℕ → List ℕ → List ℕ
reached_by outs k refs later = if has outs k || has later k then later ++ refs else later

abbrev pub reached_from : List ℕ → ℕ → List (List ℕ) → List ℕ
reached_from outs n [] = []
reached_from outs n (refs ∷ known) = reached_by outs n refs (reached_from outs (n + 1) known)

abbrev pub kept_by : List ℕ → List (List ℕ) → List ℕ
kept_by outs known = filter (has (reached_from outs 0 known)) (range_with_len 0 (length known))
