use Rattle.std.proofs.Common.{arith}
use Rattle.result_sharing.proofs.Steps.{mentions_more}
use Rattle.result_sharing.proofs.mentions.mentions_of.Goals as goal

pub loop-at-preserved : goal.loop-at-preserved
loop-at-preserved c =
    mentions_more c.args.script.now c.loop-at.at c.index-script-at.result c.loop-at.mentions.items _ (omega arith) c.index-script-at.is c.in_ok-push_own.ensures c.loop-at.invariant
