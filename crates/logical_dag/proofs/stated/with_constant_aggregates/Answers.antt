use Rattle.std.proofs.Common.{◌≡◌, ◌<◌, ◌≤◌, ap, arith, length, refl, rules}
use Rattle.std.specs.Prelude.{Any}
use Rattle.fd_closure.specs.declared.facts.Facts.{Facts}
use Rattle.logical_dag.proofs.Constants.{constants_with}
use Rattle.logical_dag.proofs.OneBelow.{constants_first, constants_more, constants_done}
use Rattle.logical_dag.proofs.AggregateFacts.{IsAggregateAt, aggregate_only, aggregate_is, aggregates_there, aggregates_back}
use Rattle.logical_dag.proofs.stated.with_constant_aggregates.Goals as goal

pub loop-agg-init : goal.loop-agg-init
loop-agg-init c = record { rest = refl; constants = constants_first c.args.into (IsAggregateAt c.args.aggs.now) }

pub loop-agg-preserved : goal.loop-agg-preserved
loop-agg-preserved c =
    let within : c.loop-agg.agg-index < length c.args.aggs.now = omega arith in
    record {
      rest = search rules;
      constants = constants_more c.args.into (IsAggregateAt c.args.aggs.now) c.loop-agg.all c.with_constant-all.result c.loop-agg.agg-index c.loop-agg.invariant.constants
          (constants_with c.loop-agg.all c.with_constant-all.result c.agg-item.result.id (IsAggregateAt c.args.aggs.now c.loop-agg.agg-index) (ap (λ (f : Facts). f.constants) c.with_constant-all.ensures.value)
          (λ d m. aggregate_only c.args.aggs.now c.loop-agg.agg-index d c.agg-item.result within c.agg-item.is m)
          (λ d e. aggregate_is c.args.aggs.now c.loop-agg.agg-index d c.agg-item.result within c.agg-item.is e));
    }

pub returns-clause-constants : goal.returns-clause-constants
returns-clause-constants c =
    let end : length c.args.aggs.now ≤ c.loop-agg.agg-index = omega arith in
    constants_done c.args.into (IsAggregateAt c.args.aggs.now) c.loop-agg.all c.loop-agg.agg-index (λ d. Any (λ a. a.id ≡ d) c.args.aggs.now) c.loop-agg.invariant.constants
    (aggregates_there c.args.aggs.now c.loop-agg.agg-index) (λ d. aggregates_back c.args.aggs.now c.loop-agg.agg-index d end)
