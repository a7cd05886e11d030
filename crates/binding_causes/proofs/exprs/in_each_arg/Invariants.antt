use Rattle.std.proofs.Common.{◌≡◌, take}
use Rattle.binding_causes.specs.Found.{any_of, in_arg}
use Rattle.binding_causes.proofs.exprs.in_each_arg.Given as goal

abbrev pub invariant-loop-agg : goal.invariant-loop-agg
invariant-loop-agg l = l.found ≡ any_of (in_arg l.names) (take l.agg-index l.aggs)
