-- A script that binds is within the limits of the language.
use Rattle.std.specs.Prelude.{◌≡◌, List, [], ◌∷◌, Ok, All}
use Rattle.script_trees.specs.declared.command.Command.{Command}
use Rattle.script_trees.specs.declared.command.Command.TheVariants.{Select}
use Rattle.script_trees.specs.declared.script.Script.{Script}
use Rattle.script_trees.specs.declared.script.Statement.{Statement}
use Rattle.scope_syntax.specs.Written.{IsRight}
use Rattle.scope_expr.specs.Sight.{AreDistinct}
use Rattle.user_ops.specs.Told.{Operators}
use Rattle.user_ops.specs.Extracts.{AreFixedColumns}
use Rattle.placed_trees.specs.declared.statement.Statement as placed
use Rattle.names_in_sight.specs.Sight.{sight_of}
use Rattle.names_in_sight.specs.Inputs.{Before, inputs_of}
use Rattle.name_resolution.specs.Resolved.{after}
use Rattle.binding_causes.specs.Resolution.{start, resolution}
use Rattle.script_meaning.specs.Within.{IsWithin}

-- no two columns that a SELECT sees are known by one alias and one name
abbrev pub IsSightDistinct : Operators → Before → Command → Type 0
IsSightDistinct ops before (Select s) = AreDistinct (sight_of (inputs_of ops before s.sources)).entries
IsSightDistinct ops before c = Unit {0}

-- so it is for each of these statements
abbrev pub AreSightsDistinct : Operators → Before → List Statement → Type 0
AreSightsDistinct ops before [] = Unit {0}
AreSightsDistinct ops before (s ∷ rest) = IsSightDistinct ops before s.command × AreSightsDistinct ops (after ops before s) rest

-- the fixed columns of each extractor have different names
abbrev pub AreAllFixed : Operators → Type 0
AreAllFixed ops = All (λ e. AreFixedColumns e.fixed_columns) ops.extractors

-- of a script that binds, what a SELECT sees is told apart by alias and name
abbrev pub GivesDistinct : Type 0
GivesDistinct = (ops : Operators) (script : Script) (statements : List placed.Statement) → AreAllFixed ops → resolution ops script ≡ Ok statements
    → AreSightsDistinct ops (start script.statements).before script.statements

-- where the grammar gives the script
abbrev pub GivesWithin : Type 0
GivesWithin = (ops : Operators) (script : Script) (statements : List placed.Statement) → AreAllFixed ops → All IsRight script.statements → resolution ops script ≡ Ok statements
    → IsWithin statements
