-- What a script binds to.
use Rattle.std.specs.Prelude.{◌≡◌, List, Result, Ok, Err}
use Rattle.logical_dag.specs.declared.dag.Dag.{Dag}
use Rattle.logical_dag.specs.Scripts.{IsBindable}
use Rattle.plain_runner.specs.Runs.{AreDagThere}
use Rattle.placed_trees.specs.declared.statement.Statement.{Statement}
use Rattle.script_trees.specs.declared.script.Script.{Script}
use Rattle.user_ops.specs.Told.{Operators}
use Rattle.binding_causes.specs.declared.cause.BindFault.{BindFault}
use Rattle.binding_causes.specs.Resolution.{resolution}
use Rattle.binding_laws.specs.There.{AreScansThere}
use Rattle.script_meaning.specs.Dag.{dag_of}
use Rattle.script_binder.specs.Shown.{Shows}

-- where its names are resolved, to the Dag of its statements; else to the first statement with a cause and its first cause
abbrev pub BindsTo : Operators → Script → Result Dag BindFault → Type 0
BindsTo ops script (Ok dag) = (statements : List Statement) × (resolution ops script ≡ Ok statements) × Shows (dag_of statements) dag
BindsTo ops script (Err fault) = resolution ops script ≡ Err fault

-- such a Dag can be run: it is one that binding can give, and the operators that it calls are there
pub record IsReady (ops : Operators) (dag : Dag) : Type 0 where
  pub bindable : IsBindable dag
  pub there : AreDagThere ops dag
  pub scans : AreScansThere ops dag.scans
