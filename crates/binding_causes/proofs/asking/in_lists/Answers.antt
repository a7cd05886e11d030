use Rattle.std.proofs.Common.{sym, ap₂, ◌∙◌}
use Rattle.binding_causes.specs.Asked.{refs_opt, keys_opt}
use Rattle.binding_causes.specs.Found.{either, in_keys}
use Rattle.binding_causes.proofs.FoundLemmas.{any_of_append}
use Rattle.binding_causes.proofs.asking.in_lists.Goals as goal

pub returns : goal.returns
returns c =
    c.or.ensures ∙ ap₂ either c.in_ok-group.ensures c.in_ok-order.ensures
    ∙ sym (any_of_append in_keys (refs_opt c.args.view.now.names c.args.s.now.group) (keys_opt c.args.view.now.result c.args.s.now.order))
