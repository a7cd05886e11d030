use Rattle.std.proofs.Common.{sym, ap₂, ◌∙◌}
use Rattle.binding_causes.specs.Found.{either, in_item}
use Rattle.binding_causes.proofs.FoundLemmas.{any_of_more}
use Rattle.binding_causes.proofs.exprs.in_each_item.Goals as goal

pub loop-item-preserved : goal.loop-item-preserved
loop-item-preserved c =
    c.or-found.ensures ∙ ap₂ either c.loop-item.invariant c.in_ok-in_expr.ensures
    ∙ sym (any_of_more (in_item c.args.names.now) c.args.items.now c.loop-item.item-index c.item-item.result c.loop-item-test.true c.item-item.is)
