use Rattle.std.proofs.Common.{◌≡◌}
use Rattle.logical_dag.specs.Known.{AreDependencies}
use Rattle.logical_dag.proofs.Carrying.{SameBelow}
use Rattle.logical_dag.proofs.carried.with_same_dependencies.Given as goal

abbrev pub invariant-loop-b : goal.invariant-loop-b
invariant-loop-b l = record {
  rest : l.all ≡ record l.fn.into { determined = l.all.determined; by = l.all.by };
  dependencies : AreDependencies l.all (SameBelow l.from l.fn.into l.b);
}
