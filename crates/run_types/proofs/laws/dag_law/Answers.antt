use Rattle.run_types.proofs.DagTypes.{typed_of_dag, whole_of_dag}
use Rattle.run_types.proofs.laws.dag_law.Goals as goal

pub returns-clause-typed : goal.returns-clause-typed
returns-clause-typed c = typed_of_dag

pub returns-clause-whole : goal.returns-clause-whole
returns-clause-whole c = whole_of_dag
