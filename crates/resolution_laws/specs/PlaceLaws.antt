-- A script that binds names what is there.
use Rattle.std.specs.Prelude.{◌≡◌, List, Ok}
use Rattle.std.specs.List.{All}
use Rattle.script_trees.specs.declared.script.Script.{Script}
use Rattle.user_ops.specs.Told.{Operators}
use Rattle.placed_trees.specs.declared.statement.Statement as placed
use Rattle.binding_causes.specs.Resolution.{resolution}
use Rattle.scope_syntax.specs.Written.{IsRight}
use Rattle.script_meaning.specs.Placed.{IsPlaced}

-- each input is an earlier result, and each column one of those in sight
abbrev pub GivesPlaced : Type 0
GivesPlaced = (ops : Operators) (script : Script) (statements : List placed.Statement) → All IsRight script.statements → resolution ops script ≡ Ok statements → IsPlaced statements
