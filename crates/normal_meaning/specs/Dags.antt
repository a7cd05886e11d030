-- The normal form of a whole Dag.
use Rattle.std.specs.Prelude.{◌↔◌, ℕ, List, [], ◌∷◌, map}
use Rattle.user_ops.specs.Told.{Operators}
use Rattle.logical_dag.specs.declared.dag.ScanDecl.{ScanDecl}
use Rattle.logical_trees.specs.Tree.{Expression}
use Rattle.logical_trees.specs.Rows.{Bag}
use Rattle.logical_trees.specs.Formed.{IsFormed}
use Rattle.placed_trees.specs.declared.statement.Statement.{Statement}
use Rattle.script_meaning.specs.Dag.{ScriptDag, dag_of}
use Rattle.script_meaning.specs.Laws.{Gives, meaning, FitsColumns, AreTold}
use Rattle.script_meaning.specs.Placed.{IsPlaced}
use Rattle.script_meaning.specs.Written.{IsBindable}
use Rattle.logical_dag.specs.DagMeaning.{AreSameOutputs}
use Rattle.normal_meaning.specs.Sinking.{normal}

-- each tree in its normal form; scans, and what outputs are named, ordered and stored by, stay
abbrev pub normal_dag : ScriptDag → ScriptDag
normal_dag d = record { scans = d.scans; shared = map normal d.shared; streams = d.streams; delimiters = d.delimiters; orders = d.orders; stored = d.stored; outputs = map normal d.outputs }

-- what the nodes of each tree name is there, where the shared results have these columns
abbrev pub AreFormed : List (List ℕ) → List Expression → Type 0
AreFormed results [] = Unit {0}
AreFormed results (t ∷ trees) = IsFormed results t × AreFormed results trees

-- a Dag and its normal form give the same rows to the outputs
abbrev pub KeepsGiven : Type 0
KeepsGiven = (ops : Operators) (input : ScanDecl → Bag) (d : ScriptDag) (rows : List Bag) (results : List (List ℕ)) → AreFormed results d.shared → AreFormed results d.outputs
    → Gives ops input d rows ↔ Gives ops input (normal_dag d) rows

-- so the normal form of the Dag of a script that names what is there gives what the script means, and binding could give it
abbrev pub NormalGivesMeaning : Type 0
NormalGivesMeaning = (ops : Operators) (input : ScanDecl → Bag) (script : List Statement) → FitsColumns script → IsPlaced script → AreTold ops input script
    → Gives ops input (normal_dag (dag_of script)) (meaning ops input script)

-- and whatever stands for its trees gives that alone
abbrev pub NormalGivesAlone : Type 0
NormalGivesAlone = (ops : Operators) (input : ScanDecl → Bag) (script : List Statement) (rows : List Bag) → FitsColumns script → IsPlaced script → AreTold ops input script
    → Gives ops input (normal_dag (dag_of script)) rows → AreSameOutputs (dag_of script).orders (meaning ops input script) rows

abbrev pub NormalIsBindable : Type 0
NormalIsBindable = (script : List Statement) → FitsColumns script → IsPlaced script → IsBindable (normal_dag (dag_of script))
