use Rattle.std.proofs.Common.{◌≡◌, take}
use Rattle.binding_causes.specs.Found.{any_of, in_agg_of}
use Rattle.binding_causes.proofs.exprs.in_each_agg.Given as goal

abbrev pub invariant-loop-agg : goal.invariant-loop-agg
invariant-loop-agg l = l.found ≡ any_of (in_agg_of l.names) (take l.agg-index l.aggs)
