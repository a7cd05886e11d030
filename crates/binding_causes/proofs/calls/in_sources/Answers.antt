use Rattle.std.proofs.Common.{sym, ap₂, ◌∙◌}
use Rattle.binding_causes.specs.Found.{either, in_joined}
use Rattle.binding_causes.proofs.FoundLemmas.{any_of_more}
use Rattle.binding_causes.proofs.calls.in_sources.Goals as goal

pub loop-joined-preserved : goal.loop-joined-preserved
loop-joined-preserved g c =
    c.or-found.ensures ∙ ap₂ either c.loop-joined.invariant c.in_ok-in_origin.ensures
    ∙ sym (any_of_more (in_joined (g.O.Tells.tells c.args.ops.now)) c.args.sources.now c.loop-joined.joined-index c.joined-item.result c.loop-joined-test.true c.joined-item.is)
