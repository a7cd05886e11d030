use Rattle.std.proofs.Common.{◌≡◌, ◌⊎◌}
use Rattle.logical_dag.specs.Known.{AreDependencies, IsDependency}
use Rattle.logical_dag.proofs.OneBelow.{OneBelow}
use Rattle.logical_dag.proofs.AggregateFacts.{IsAggregateAt}
use Rattle.logical_dag.proofs.stated.with_keyed_aggregates.Given as goal

abbrev pub invariant-loop-agg : goal.invariant-loop-agg
invariant-loop-agg l = record {
  rest : l.all ≡ record l.fn.into { determined = l.all.determined; by = l.all.by };
  dependencies : AreDependencies l.all (λ s c. IsDependency l.fn.into s c ⊎ ((s ≡ l.keys) × OneBelow (IsAggregateAt l.aggs) l.agg-index c));
}
