-- What holds of a script that binds, so that its Dag can be made and run.
use Rattle.std.specs.Prelude.{◌≡◌, List, Ok, All}
use Rattle.script_trees.specs.declared.script.Script.{Script}
use Rattle.scope_syntax.specs.Written.{IsRight}
use Rattle.user_ops.specs.Lawful.{AreLawful}
use Rattle.user_ops.specs.Told.{Operators}
use Rattle.logical_dag.specs.declared.dag.ScanDecl.{ScanDecl}
use Rattle.logical_trees.specs.Tree.{Expression}
use Rattle.logical_trees.specs.Rows.{Bag}
use Rattle.normal_meaning.specs.Sinking.{normal}
use Rattle.plain_meaning.specs.Plain.{AreThere}
use Rattle.placed_trees.specs.declared.statement.Statement as placed
use Rattle.binding_causes.specs.Resolution.{resolution}
use Rattle.script_meaning.specs.Dag.{dag_of}
use Rattle.script_meaning.specs.Placed.{IsPlaced}
use Rattle.script_meaning.specs.Within.{IsWithin}
use Rattle.script_meaning.specs.Laws.{FitsColumns, AreTold}
use Rattle.binding_laws.specs.There.{TellsOuterJoins, IsCommandThere, AreScansThere}

-- the statements name what is there, are within the limits, number few enough columns, and call operators that are there
pub record AreBound (ops : Operators) (statements : List placed.Statement) : Type 0 where
  pub placed : IsPlaced statements
  pub within : IsWithin statements
  pub fits : FitsColumns statements
  pub there : All (λ s. IsCommandThere ops s.command) statements

-- so it is for a script that the grammar gives, and that binds
abbrev pub GivesBound : Type 0
GivesBound = (ops : Operators) (script : Script) (statements : List placed.Statement) → AreLawful ops → All IsRight script.statements → resolution ops script ≡ Ok statements
    → AreBound ops statements

-- and its outer joins are called as they should be, whatever the rows
abbrev pub GivesTold : Type 0
GivesTold = (ops : Operators) (script : Script) (statements : List placed.Statement) (input : ScanDecl → Bag) → AreLawful ops → TellsOuterJoins ops → All IsRight script.statements
    → resolution ops script ≡ Ok statements → AreTold ops input statements

-- then the operators that the trees of its Dag call are there, and those of its scans
pub record IsDagThere (ops : Operators) (statements : List placed.Statement) : Type 0 where
  pub shared : All (AreThere ops) (dag_of statements).shared
  pub outputs : All (AreThere ops) (dag_of statements).outputs
  pub scans : AreScansThere ops (dag_of statements).scans

abbrev pub GivesThere : Type 0
GivesThere = (ops : Operators) (statements : List placed.Statement) → All (λ s. IsCommandThere ops s.command) statements → IsDagThere ops statements

-- and so it is of a tree in normal form
abbrev pub KeepsThere : Type 0
KeepsThere = (ops : Operators) (t : Expression) → AreThere ops t → AreThere ops (normal t)
