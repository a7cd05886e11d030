-- The inputs of a statement: which earlier results and which streams, and the columns of each.
use Rattle.std.specs.Prelude.{ℕ, ◌-◌, Bool, true, false, if◌then◌else◌, List, [], ◌∷◌, map, flat_map, length, Option, Some, None, slice_get}
use Rattle.std.specs.Option.{option_and_then, option_map_or}
use Rattle.std.specs.List.{position}
use Rattle.std.specs.Str.{bytes_eq}
use Rattle.scope_value.specs.declared.schema.Column.{Column}
use Rattle.script_trees.specs.declared.command.Command.{Command}
use Rattle.script_trees.specs.declared.command.Command.TheVariants.{Output}
use Rattle.script_trees.specs.declared.script.Statement.{Statement}
use Rattle.script_trees.specs.declared.select.Joined.{Joined}
use Rattle.script_trees.specs.declared.source.Source.{Source}
use Rattle.script_trees.specs.declared.source.Origin.{Origin}
use Rattle.script_trees.specs.declared.source.Origin.TheVariants.{Named, Stream}
use Rattle.user_ops.specs.Told.{Operators}
use Rattle.names_in_sight.specs.declared.input.Input.{Input}
use Rattle.names_in_sight.specs.Operators.{inline_columns}

-- the statements before one, and the columns of the result of each, none of an OUTPUT
pub record Before : Type 0 where
  pub statements : List Statement
  pub headings : List (List Column)

-- what stands before a statement, by the two lists that code has of it
abbrev pub before_of : List Statement → List (List Column) → Before
before_of statements headings = record { statements = statements; headings = headings }

abbrev pub named : Option (List ℕ) → List ℕ → Bool
named None n = false
named (Some m) n = bytes_eq m n

abbrev pub is_named : List ℕ → Statement → Bool
is_named n s = named s.name n

-- an OUTPUT has no result
abbrev pub gives : Command → Bool
gives (Output source stream outputter stored) = false
gives c = true

abbrev pub result_of : Option Statement → ℕ → Option ℕ
result_of None k = None
result_of (Some s) k = if gives s.command then Some k else None

-- the number of the statement that an input is the result of; an omitted one is that of the statement just before
abbrev pub input_at : List Statement → Option (List ℕ) → Option ℕ
input_at earlier (Some n) = position (is_named n) earlier
input_at earlier None = result_of (slice_get earlier (length earlier - 1)) (length earlier - 1)

-- the columns of that result, and none where it isn't there
abbrev pub heading_at : Before → Option (List ℕ) → List Column
heading_at before i = option_map_or (λ cs. cs) (option_and_then (λ k. slice_get before.headings k) (input_at before.statements i)) []

abbrev pub columns_of : Operators → Before → Origin → List Column
columns_of ops before (Named n) = heading_at before (Some n)
columns_of ops before (Stream name call) = inline_columns ops call.op

-- the alias that is written, or a result's own name
abbrev pub alias_of : Origin → Option (List ℕ) → Option (List ℕ)
alias_of origin (Some a) = Some a
alias_of (Named n) None = Some n
alias_of (Stream name call) None = None

abbrev pub input_of : Operators → Before → Source → Input
input_of ops before s = record { alias = alias_of s.origin s.alias; columns = columns_of ops before s.origin }

-- an omitted input has no alias
abbrev pub input_of_opt : Operators → Before → Option Source → Input
input_of_opt ops before None = record { alias = None; columns = heading_at before None }
input_of_opt ops before (Some s) = input_of ops before s

-- the inputs of a FROM, and the omitted one where none is written
abbrev pub inputs_of : Operators → Before → List Joined → List Input
inputs_of ops before [] = input_of_opt ops before None ∷ []
inputs_of ops before (j ∷ sources) = map (λ j. input_of ops before j.source) (j ∷ sources)

-- the columns of all inputs, one after the other
abbrev pub columns_of_all : List Input → List Column
columns_of_all inputs = flat_map (λ i. i.columns) inputs
