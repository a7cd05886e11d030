use Rattle.std.proofs.Common.{arith}
use Rattle.names_in_sight.specs.Views.{pair_of}
use Rattle.names_in_sight.proofs.Lists.{map_more}
use Rattle.names_in_sight.proofs.equalities.pairs_of.Goals as goal

pub loop-pair-preserved : goal.loop-pair-preserved
loop-pair-preserved c =
    map_more (pair_of c.args.sides.now) c.args.on.now c.loop-pair.pair-index c.pair-item.result c.loop-pair.pairs c.push.new.self c.pair_of.result
    (omega arith) c.pair-item.is c.loop-pair.invariant c.pair_of.ensures c.in_ok-push.ensures.ok
