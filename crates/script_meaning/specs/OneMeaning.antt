-- A Dag gives one result: whatever bags stand for its trees, the rows are the same.
use Rattle.std.specs.Prelude.{List}
use Rattle.user_ops.specs.Told.{Operators}
use Rattle.logical_dag.specs.declared.dag.ScanDecl.{ScanDecl}
use Rattle.logical_trees.specs.Rows.{Bag}
use Rattle.logical_dag.specs.DagMeaning.{AreSameOutputs}
use Rattle.placed_trees.specs.declared.statement.Statement.{Statement}
use Rattle.script_meaning.specs.Dag.{ScriptDag, dag_of}
use Rattle.script_meaning.specs.Placed.{IsPlaced}
use Rattle.script_meaning.specs.Laws.{Gives, meaning, FitsColumns, AreTold}
use Rattle.script_meaning.specs.Written.{IsBindable}

-- what a Dag that binding can give gives is one
abbrev pub GivesOne : Type 0
GivesOne = (ops : Operators) (input : ScanDecl → Bag) (d : ScriptDag) (rows others : List Bag) → IsBindable d
    → Gives ops input d rows → Gives ops input d others → AreSameOutputs d.orders rows others

-- and it gives some rows
abbrev pub GivesSome : Type 0
GivesSome = (ops : Operators) (input : ScanDecl → Bag) (d : ScriptDag) → IsBindable d → (rows : List Bag) × Gives ops input d rows

-- so what the Dag of a script gives, whatever stands for its trees, is what the script means
abbrev pub GivesMeaningAlone : Type 0
GivesMeaningAlone = (ops : Operators) (input : ScanDecl → Bag) (script : List Statement) (rows : List Bag) → FitsColumns script → IsPlaced script → AreTold ops input script
    → Gives ops input (dag_of script) rows → AreSameOutputs (dag_of script).orders (meaning ops input script) rows
