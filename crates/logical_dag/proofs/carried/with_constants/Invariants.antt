use Rattle.std.proofs.Common.{◌≡◌}
use Rattle.logical_dag.specs.Known.{name_of, AreConstants}
use Rattle.logical_dag.proofs.Carrying.{ConstantsBelow}
use Rattle.logical_dag.proofs.carried.with_constants.Given as goal

abbrev pub invariant-loop-b : goal.invariant-loop-b
invariant-loop-b l = record {
  rest : l.all ≡ record l.fn.into { constants = l.all.constants };
  constants : AreConstants l.all (ConstantsBelow l.from (name_of l.names) l.fn.into l.b);
}
