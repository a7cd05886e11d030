use Rattle.logical_dag.specs.Laws.{lent_columns}
use Rattle.logical_dag.proofs.KnownHold.{facts_hold, lent_sets}
use Rattle.logical_dag.proofs.known.facts_law.Goals as goal

pub returns : goal.returns
returns c = λ shared t f sets formed facts. facts_hold shared (lent_columns shared) t f formed (lent_sets shared t sets) facts
