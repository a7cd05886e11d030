use Rattle.std.proofs.Common.{◌≡◌, ◌+◌, take}
use Rattle.script_meaning.specs.Part.{numbered}
use Rattle.script_nodes.specs.Steps.{column_at}
use Rattle.script_nodes.proofs.handed.aggs_in.Given as goal

abbrev pub invariant-loop-agg : goal.invariant-loop-agg
invariant-loop-agg l = record {
  done : l.all ≡ numbered (column_at l.cols) l.next (take l.agg-index l.aggs);
  next : l.id ≡ l.next + l.agg-index;
}
