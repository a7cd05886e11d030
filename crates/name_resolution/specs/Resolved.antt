-- A statement with its names resolved. What isn't there stands as the first of its kind: causes are asked apart.
use Rattle.std.specs.Prelude.{ℕ, List, [], ◌∷◌, ◌++◌, map, Option, Some, None, option_map}
use Rattle.scope_value.specs.declared.schema.Column.{Column}
use Rattle.script_trees.specs.declared.call.Call as raw_call
use Rattle.script_trees.specs.declared.command.Command as raw_command
use Rattle.script_trees.specs.declared.command.Command.TheVariants as raw
use Rattle.script_trees.specs.declared.script.Statement as raw_statement
use Rattle.script_trees.specs.declared.source.Source as raw_source
use Rattle.script_trees.specs.declared.stored.RawStored.{RawStored}
use Rattle.scope_expr.specs.declared.scope.Scope.{Scope}
use Rattle.user_ops.specs.Told.{Operators}
use Rattle.placed_trees.specs.declared.call.Call.{Call}
use Rattle.placed_trees.specs.declared.command.Command.{Command}
use Rattle.placed_trees.specs.declared.command.Command.TheVariants.{Extract, Select, Process, Reduce, Combine, Output}
use Rattle.placed_trees.specs.declared.source.Source.{Source}
use Rattle.placed_trees.specs.declared.source.Source.TheVariants.{FromResult}
use Rattle.placed_trees.specs.declared.source.StoredPlaces.{StoredPlaces}
use Rattle.placed_trees.specs.declared.statement.Statement.{Statement}
use Rattle.names_in_sight.specs.Sight.{sight_of, sight_of_columns, place_of, keys_of}
use Rattle.names_in_sight.specs.Operators.{op_of, delimiter_of}
use Rattle.names_in_sight.specs.Inputs.{Before, heading_at, input_of, input_of_opt}
use Rattle.names_in_sight.specs.Views.{sides_of, pairs_of, heading, view_of}
use Rattle.name_resolution.specs.Queries.{resolved_origin, query_of}

abbrev pub source_of : Operators → Option raw_source.Source → Source
source_of ops None = FromResult None
source_of ops (Some s) = resolved_origin ops s.origin

-- a call of the operator of that name
abbrev pub call_of : List (List ℕ) → raw_call.Call → List Column → Call
call_of names call output = record { op = op_of names call.op; args = call.args; output = output }

-- what a stream is declared to be stored by
abbrev pub stored_of : Scope → Option RawStored → Option StoredPlaces
stored_of names = option_map (λ s. record { hash = map (place_of names) s.hash; sorted = option_map (keys_of names) s.sorted })

abbrev pub resolved : Operators → Before → raw_command.Command → Command
resolved ops before (raw.Extract cols stream call stored) =
    Extract (record { name = stream; op = op_of ops.extractor_names call.op; args = call.args; schema = cols; stored = stored_of (sight_of_columns cols) stored })
resolved ops before (raw.Select s) = Select (query_of ops before s (view_of ops before s))
resolved ops before (raw.Process source call cols) = Process (source_of ops source) (call_of ops.processor_names call cols)
resolved ops before (raw.Reduce source presort on call cols) =
    let names = sight_of (input_of_opt ops before source ∷ []) in
    Reduce (source_of ops source) (map (place_of names) on) (option_map (keys_of names) presort) (call_of ops.reducer_names call cols)
resolved ops before (raw.Combine left left_presort right right_presort on call cols) =
    let a = input_of ops before left in
    let b = input_of ops before right in
    Combine (resolved_origin ops left.origin) (option_map (keys_of (sight_of (a ∷ []))) left_presort)
    (resolved_origin ops right.origin) (option_map (keys_of (sight_of (b ∷ []))) right_presort)
    (pairs_of (sides_of (a ∷ []) b) on) (call_of ops.combiner_names call cols)
resolved ops before (raw.Output source stream outputter stored) =
    Output (record { source = source; stream = stream; delimiter = delimiter_of outputter; stored = stored_of (sight_of_columns (heading_at before source)) stored })

abbrev pub resolved_statement : Operators → Before → raw_statement.Statement → Statement
resolved_statement ops before s = record { name = s.name; command = resolved ops before s.command }

-- the columns of a command's result, none of an OUTPUT
abbrev pub heading_of : Operators → Before → raw_command.Command → List Column
heading_of ops before (raw.Extract cols stream call stored) = cols
heading_of ops before (raw.Select s) = heading (view_of ops before s).outputs
heading_of ops before (raw.Process source call cols) = cols
heading_of ops before (raw.Reduce source presort on call cols) = cols
heading_of ops before (raw.Combine left left_presort right right_presort on call cols) = cols
heading_of ops before (raw.Output source stream outputter stored) = []

-- what stands before the next statement
abbrev pub after : Operators → Before → raw_statement.Statement → Before
after ops before s = record { statements = before.statements ++ s ∷ []; headings = before.headings ++ heading_of ops before s.command ∷ [] }
