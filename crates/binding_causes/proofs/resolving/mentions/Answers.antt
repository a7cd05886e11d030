use Rattle.std.proofs.Common.{◌++◌, ◌+◌, ℕ, List, take, drop, ap, ◌∙◌, arith}
use Rattle.binding_causes.specs.Limits.{mentions}
use Rattle.binding_causes.proofs.JudgingLemmas.{mentions_more}
use Rattle.binding_causes.proofs.resolving.mentions.Goals as goal

pub loop-at-preserved : goal.loop-at-preserved
loop-at-preserved c =
    ap (λ (front : List ℕ). front ++ mentions (take (c.loop-at.at + 1) c.args.statements.now) (drop (c.loop-at.at + 1) c.args.statements.now)) c.in_ok-push_own.ensures
    ∙ mentions_more c.loop-at.all.items c.args.statements.now c.loop-at.at c.index-statements-at.result (omega arith) c.index-statements-at.is
    ∙ c.loop-at.invariant
