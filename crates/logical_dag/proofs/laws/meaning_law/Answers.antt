use Rattle.logical_dag.specs.DagMeaningLemmas.{dag_gives_some, dag_gives_one, gives_same}
use Rattle.logical_dag.proofs.laws.meaning_law.Goals as goal

pub returns-clause-some : goal.returns-clause-some
returns-clause-some c = dag_gives_some

pub returns-clause-one : goal.returns-clause-one
returns-clause-one c = dag_gives_one

pub returns-clause-replaced : goal.returns-clause-replaced
returns-clause-replaced c = gives_same
