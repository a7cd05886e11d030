use Rattle.std.proofs.Common.{◌<◌, ◌≤◌, arith, length, refl, sym, rules}
use Rattle.logical_dag.proofs.AggregateFacts.{keyed_first, keyed_step, keyed_done, aggregates_low, aggregate_free}
use Rattle.logical_dag.proofs.stated.with_keyed_aggregates.Goals as goal

pub loop-agg-init : goal.loop-agg-init
loop-agg-init c = record { rest = refl; dependencies = keyed_first c.args.into c.args.keys c.args.aggs.now }

pub loop-agg-preserved : goal.loop-agg-preserved
loop-agg-preserved c =
    let within : c.loop-agg.agg-index < length c.args.aggs.now = omega arith in
    let lows = aggregates_low c.args.aggs.now c.requires.below in
    let low : c.agg-item.result.id < 128 = lows c.loop-agg.agg-index c.agg-item.result.id (c.agg-item.result, within, sym c.agg-item.is, refl) in
    let room : c.agg-item.result.id < length c.loop-agg.all.by = search rules in
    record {
      rest = search rules;
      dependencies = keyed_step c.args.into c.loop-agg.all c.with_dependency-all.result c.args.keys c.args.aggs.now c.loop-agg.agg-index c.agg-item.result within c.agg-item.is lows room
          (aggregate_free c.args.into c.args.aggs.now c.loop-agg.agg-index c.agg-item.result c.requires.free within c.agg-item.is) c.with_dependency-all.ensures.value c.loop-agg.invariant.dependencies;
    }

pub returns-clause-dependencies : goal.returns-clause-dependencies
returns-clause-dependencies c =
    let end : length c.args.aggs.now ≤ c.loop-agg.agg-index = omega arith in
    keyed_done c.args.into c.loop-agg.all c.args.keys c.args.aggs.now c.loop-agg.agg-index end c.loop-agg.invariant.dependencies
