-- What holds of a script that binds.
use Rattle.std.specs.Prelude.{◌≡◌, List, [], Ok}
use Rattle.script_trees.specs.declared.script.Script.{Script}
use Rattle.user_ops.specs.Told.{Operators}
use Rattle.placed_trees.specs.declared.statement.Statement as placed
use Rattle.binding_causes.specs.Resolution.{start, resolution}
use Rattle.resolution_laws.specs.Causeless.{resolved_all, AreCauseless}

-- the statements are those that its names resolve to, and none has a cause
pub record Binds (ops : Operators) (script : Script) (statements : List placed.Statement) : Type 0 where
  pub resolved : statements ≡ resolved_all ops (start script.statements).before script.statements
  pub causeless : AreCauseless ops (start script.statements) script.statements

abbrev pub GivesCauseless : Type 0
GivesCauseless = (ops : Operators) (script : Script) (statements : List placed.Statement) → resolution ops script ≡ Ok statements → Binds ops script statements
