-- What a script binds to, read by its name.
use Rattle.std.specs.Prelude.{◌≡◌, ℕ, List, Option}
use Rattle.scope_outside.specs.State.{StoreState}
use Rattle.user_ops.specs.Told.{Operators}
use Rattle.logical_dag.specs.declared.dag.Dag.{Dag}
use Rattle.placed_trees.specs.declared.statement.Statement.{Statement}
use Rattle.script_meaning.specs.Dag.{dag_of}
use Rattle.script_binder.specs.Shown.{Shows}
use Rattle.scope_app.specs.Steps.{HasStatements}
use Rattle.scope_app.specs.Ends.{OnScript}

-- the store is as before, and the script of this name binds to the Dag
pub record IsDagOf (ops : Operators) (script : List ℕ) (sizes : Option (List ℕ)) (old new : StoreState) (dag : Dag) : Type 0 where
  pub same : new ≡ old
  pub binds : OnScript ops old script sizes (λ g. (statements : List Statement) × HasStatements g statements × Shows (dag_of statements) dag)
