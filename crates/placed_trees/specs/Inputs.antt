-- Which statement an input is the result of.
use Rattle.std.specs.Prelude.{ℕ, ◌-◌, Bool, true, false, if◌then◌else◌, List, [], ◌∷◌, length, Option, Some, None, slice_get}
use Rattle.std.specs.List.{position}
use Rattle.std.specs.Str.{bytes_eq}
use Rattle.placed_trees.specs.declared.command.Command.{Command}
use Rattle.placed_trees.specs.declared.command.Command.TheVariants.{Output}
use Rattle.placed_trees.specs.declared.statement.Statement.{Statement}

abbrev pub named : Option (List ℕ) → List ℕ → Bool
named None n = false
named (Some m) n = bytes_eq m n

abbrev pub is_named : List ℕ → Statement → Bool
is_named n s = named s.name n

-- an OUTPUT has no result
abbrev pub gives : Command → Bool
gives (Output w) = false
gives c = true

abbrev pub result_of : Option Statement → ℕ → Option ℕ
result_of None k = None
result_of (Some s) k = if gives s.command then Some k else None

-- the number of the statement that an input is the result of; an omitted one is that of the statement just before
abbrev pub input_at : List Statement → Option (List ℕ) → Option ℕ
input_at earlier (Some n) = position (is_named n) earlier
input_at earlier None = result_of (slice_get earlier (length earlier - 1)) (length earlier - 1)
