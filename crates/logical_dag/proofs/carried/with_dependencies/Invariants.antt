use Rattle.std.proofs.Common.{◌≡◌}
use Rattle.logical_dag.specs.Known.{name_of, AreDependencies}
use Rattle.logical_dag.proofs.Carrying.{DependenciesBelow}
use Rattle.logical_dag.proofs.carried.with_dependencies.Given as goal

abbrev pub invariant-loop-b : goal.invariant-loop-b
invariant-loop-b l = record {
  rest : l.all ≡ record l.fn.into { determined = l.all.determined; by = l.all.by };
  dependencies : AreDependencies l.all (DependenciesBelow l.from (name_of l.names) l.fn.into l.b);
}
