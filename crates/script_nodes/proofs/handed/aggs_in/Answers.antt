use Rattle.std.proofs.Common.{◌<◌, length, arith}
use Rattle.script_nodes.specs.Steps.{column_at}
use Rattle.script_nodes.proofs.Places.{numbered_more}
use Rattle.script_nodes.proofs.handed.aggs_in.Goals as goal

pub loop-agg-preserved : goal.loop-agg-preserved
loop-agg-preserved c =
    let before = c.loop-agg.invariant in
    let lt : c.loop-agg.agg-index < length c.args.aggs.now = omega arith in
    record {
      done = numbered_more (column_at c.args.cols.now) c.args.next c.args.aggs.now c.loop-agg.agg-index c.agg-item.result c.loop-agg.all c.push.new.self c.in_ok-arg.arg c.loop-agg.id
          lt c.agg-item.is before.done c.in_ok-arg.ensures before.next c.in_ok-push.ensures.ok;
      next = omega arith;
    }
