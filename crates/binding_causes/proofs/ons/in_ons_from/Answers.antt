use Rattle.std.proofs.Common.{◌+◌, take, drop, sym, ap, ◌∙◌, arith}
use Rattle.binding_causes.specs.Asked.{ons_from}
use Rattle.binding_causes.specs.Found.{either, any_of, in_on}
use Rattle.binding_causes.proofs.FoundLemmas.{either_none}
use Rattle.binding_causes.proofs.OnLemmas.{ons_more, ons_end}
use Rattle.binding_causes.proofs.ons.in_ons_from.Goals as goal

pub loop-at-preserved : goal.loop-at-preserved
loop-at-preserved c =
    ap (λ f. either f (any_of in_on (ons_from (take (c.loop-at.at + 1 + 1) c.args.inputs.now) (drop (c.loop-at.at + 1 + 1) c.args.inputs.now) (drop (c.loop-at.at + 1) c.args.more.now)))) c.or-found.ensures
    ∙ ons_more c.args.inputs.now c.args.more.now c.loop-at.at c.index-more-at.result c.loop-at.found c.in_ok-in_on_at.field-0 (omega arith) (omega arith) c.index-more-at.is
    (λ d. rw (← c.as_slice.ensures) (c.in_ok-in_on_at.ensures d))
    ∙ c.loop-at.invariant

pub returns : goal.returns
returns c =
    sym (either_none c.loop-at.found)
    ∙ ap (either c.loop-at.found) (sym (ons_end (take (c.loop-at.at + 1) c.args.inputs.now) (drop (c.loop-at.at + 1) c.args.inputs.now) c.args.more.now c.loop-at.at (omega arith)))
    ∙ c.loop-at.invariant
