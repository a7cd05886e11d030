use Rattle.std.proofs.Common.{◌≡◌, ◌⊎◌, true}
use Rattle.col_sets.specs.Sets.{has}
use Rattle.logical_dag.specs.Known.{AreConstants}
use Rattle.logical_dag.proofs.OneBelow.{OneBelow}
use Rattle.logical_dag.proofs.AggregateFacts.{IsAggregateAt}
use Rattle.logical_dag.proofs.stated.with_constant_aggregates.Given as goal

abbrev pub invariant-loop-agg : goal.invariant-loop-agg
invariant-loop-agg l = record {
  rest : l.all ≡ record l.fn.into { constants = l.all.constants };
  constants : AreConstants l.all (λ c. (has l.fn.into.constants c ≡ true) ⊎ OneBelow (IsAggregateAt l.aggs) l.agg-index c);
}
