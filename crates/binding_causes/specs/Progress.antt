-- The statements so far, as the code has them.
use Rattle.std.specs.Prelude.{ℕ, List, Option, Some, None, Result, Ok, Err}
use Rattle.script_trees.specs.declared.script.Statement.{Statement}
use Rattle.placed_trees.specs.declared.statement.Statement as placed
use Rattle.names_in_sight.specs.Inputs.{before_of}
use Rattle.binding_causes.specs.declared.cause.BindFault.{BindFault}
use Rattle.binding_causes.specs.declared.progress.Progress.{Progress}
use Rattle.binding_causes.specs.Resolution.{Place}

-- the place of the next statement
abbrev pub place_of : List ℕ → List Statement → Progress → Place
place_of all earlier p = record { all = all; near = p.near.items; before = before_of earlier p.headings; counts = p.counts.items }

-- what a fault, or none, says of the statements that are done
abbrev pub outcome : Option BindFault → List placed.Statement → Result (List placed.Statement) BindFault
outcome None done = Ok done
outcome (Some fault) done = Err fault
