-- Causes that lie in operators: names that aren't there, and columns and args that an operator doesn't take.
use Rattle.std.specs.Prelude.{ℕ, Bool, true, false, not, ◌||◌, List, [], ◌∷◌, ◌++◌, flat_map, length, Option, Some, None, is_some}
use Rattle.std.specs.Option.{option_map_or}
use Rattle.std.specs.List.{list_any}
use Rattle.scope_value.specs.declared.schema.Column.{Column}
use Rattle.script_trees.specs.declared.call.Call.{Call}
use Rattle.script_trees.specs.declared.command.Command.{Command}
use Rattle.script_trees.specs.declared.command.Command.TheVariants.{Extract, Select, Process, Reduce, Combine, Output}
use Rattle.script_trees.specs.declared.select.Joined.{Joined}
use Rattle.script_trees.specs.declared.source.Origin.{Origin}
use Rattle.script_trees.specs.declared.source.Origin.TheVariants.{Named, Stream}
use Rattle.user_ops.specs.Told.{ToldExtractor, Operators}
use Rattle.outer_joins.specs.declared.side.Side.{Side}
use Rattle.outer_joins.specs.Laws.{width_args}
use Rattle.names_in_sight.specs.declared.input.Input.{Input}
use Rattle.names_in_sight.specs.Operators.{place_in, told_in, outer_name, is_outputter}
use Rattle.names_in_sight.specs.Inputs.{Before, input_of, input_of_opt, inputs_of}
use Rattle.names_in_sight.specs.Views.{outer_side}
use Rattle.binding_causes.specs.Names.{sources_of}

abbrev pub is_in : List (List ℕ) → List ℕ → Bool
is_in names name = is_some (place_in names name)

-- ---- the outer join of a FROM

-- the side of the outer join of two sources
abbrev pub side_of : List Joined → Option Side
side_of (j ∷ (k ∷ [])) = outer_side k.side
side_of sources = None

-- ---- the set hasn't the name

-- the calls of the extractors of sources
abbrev pub origin_calls : Origin → List Call
origin_calls (Named n) = []
origin_calls (Stream name call) = call ∷ []

abbrev pub inline_calls : Command → List Call
inline_calls c = flat_map (λ s. origin_calls s.origin) (sources_of c)

abbrev pub is_combiner_missing : Operators → Option Side → Bool
is_combiner_missing ops None = false
is_combiner_missing ops (Some side) = not (is_in ops.combiner_names (outer_name side))

abbrev pub is_own_missing : Operators → Command → Bool
is_own_missing ops (Extract cols stream call stored) = not (is_in ops.extractor_names call.op)
is_own_missing ops (Select s) = is_combiner_missing ops (side_of s.sources)
is_own_missing ops (Process source call cols) = not (is_in ops.processor_names call.op)
is_own_missing ops (Reduce source presort on call cols) = not (is_in ops.reducer_names call.op)
is_own_missing ops (Combine left left_presort right right_presort on call cols) = not (is_in ops.combiner_names call.op)
is_own_missing ops (Output source stream outputter stored) = not (is_outputter outputter)

abbrev pub has_unknown_operator : Operators → Command → Bool
has_unknown_operator ops c = list_any (λ call. not (is_in ops.extractor_names call.op)) (inline_calls c) || is_own_missing ops c

-- ---- the operator doesn't take the columns and the args

-- an extractor has fixed columns, and takes them with these args
abbrev pub fixed_taken : List (List ℕ) → ToldExtractor → Bool
fixed_taken args e = option_map_or (λ cs. e.takes cs args) e.fixed_columns false

abbrev pub takes_fixed : Operators → List ℕ → List (List ℕ) → Bool
takes_fixed ops name args = option_map_or (fixed_taken args) (told_in ops.extractor_names ops.extractors name) false

-- as one in place is to do
abbrev pub takes_inline : Operators → Call → Bool
takes_inline ops call = takes_fixed ops call.op call.args

abbrev pub extractor_takes : Operators → List ℕ → List (List ℕ) → List Column → Bool
extractor_takes ops name args output = option_map_or (λ e. e.takes output args) (told_in ops.extractor_names ops.extractors name) false

abbrev pub processor_takes : Operators → List ℕ → List (List ℕ) → List Column → List Column → Bool
processor_takes ops name args input output = option_map_or (λ p. p.takes input output args) (told_in ops.processor_names ops.processors name) false

abbrev pub reducer_takes : Operators → List ℕ → List (List ℕ) → List Column → List Column → Bool
reducer_takes ops name args input output = option_map_or (λ r. r.takes input output args) (told_in ops.reducer_names ops.reducers name) false

abbrev pub combiner_takes : Operators → List ℕ → List (List ℕ) → List Column → List Column → List Column → Bool
combiner_takes ops name args left right output = option_map_or (λ c. c.takes left right output args) (told_in ops.combiner_names ops.combiners name) false

-- the combiner of the outer join of two inputs takes their columns
abbrev pub takes_outer : Operators → Side → List Input → Bool
takes_outer ops side (a ∷ (b ∷ [])) = combiner_takes ops (outer_name side) (width_args (length a.columns) (length b.columns)) a.columns b.columns (a.columns ++ b.columns)
takes_outer ops side inputs = true

abbrev pub outer_taken : Operators → List Input → List Joined → Bool
outer_taken ops inputs sources = option_map_or (λ side. takes_outer ops side inputs) (side_of sources) true

abbrev pub own_taken : Operators → Before → Command → Bool
own_taken ops before (Extract cols stream call stored) = extractor_takes ops call.op call.args cols
own_taken ops before (Select s) = outer_taken ops (inputs_of ops before s.sources) s.sources
own_taken ops before (Process source call cols) = processor_takes ops call.op call.args (input_of_opt ops before source).columns cols
own_taken ops before (Reduce source presort on call cols) = reducer_takes ops call.op call.args (input_of_opt ops before source).columns cols
own_taken ops before (Combine left left_presort right right_presort on call cols) =
    combiner_takes ops call.op call.args (input_of ops before left).columns (input_of ops before right).columns cols
own_taken ops before (Output source stream outputter stored) = true

abbrev pub is_refused : Operators → Before → Command → Bool
is_refused ops before c = list_any (λ call. not (takes_inline ops call)) (inline_calls c) || not (own_taken ops before c)
