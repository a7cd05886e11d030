use Rattle.std.proofs.Common.{◌≡◌}
use Rattle.logical_dag.specs.Known.{name_of, AreClasses}
use Rattle.logical_dag.proofs.Carrying.{EqualitiesBelow}
use Rattle.logical_dag.proofs.carried.with_equalities.Given as goal

abbrev pub invariant-loop-b : goal.invariant-loop-b
invariant-loop-b l = record {
  rest : l.all ≡ record l.fn.into { class = l.all.class };
  classes : AreClasses l.all (EqualitiesBelow l.from (name_of l.names) l.fn.into l.b);
}
