use Rattle.std.proofs.Common.{◌≡◌, false, true, ◌∙◌}
use Rattle.col_sets.specs.Sets.{has}
use Rattle.result_sharing.proofs.Steps.{among_taken, among_left}
use Rattle.result_sharing.proofs.kept.among.Goals as goal
use Rattle.result_sharing.proofs.kept.among.Goals.{then-is_among+in_ok-push, else-is_among}

pub loop-k-preserved : goal.loop-k-preserved
loop-k-preserved c =
    let reached = c.args.reached.now in
    let k = c.loop-k.k in
    let old = c.loop-k.kept.items in
    elim c.if-is_among.branch [
      | then-is_among+in_ok-push w ↦
          let named : has reached k ≡ true = cc in
          among_taken reached k old c.if-is_among.kept.items named c.loop-k.invariant (cc (w.in_ok-push.ensures.items))
      | else-is_among w ↦
          let named : has reached k ≡ false = cc in
          let same : c.if-is_among.kept.items ≡ old = cc in
          same ∙ among_left reached k old named c.loop-k.invariant
    ]
