use Rattle.std.proofs.Common.{[], ◌∷◌, sym, ap₂, ◌∙◌}
use Rattle.names_in_sight.specs.Views.{sides_of}
use Rattle.names_in_sight.specs.Sight.{sight_of}
use Rattle.binding_causes.specs.Asked.{keys_opt}
use Rattle.binding_causes.specs.Found.{either, in_on, in_keys}
use Rattle.binding_causes.proofs.FoundLemmas.{any_of_one, any_of_append}
use Rattle.binding_causes.proofs.asking.in_combine.Goals as goal

pub returns : goal.returns
returns c =
    let a = c.args.left.0.now in
    let b = c.args.right.0.now in
    c.or-2.ensures
    ∙ ap₂ either (c.in_ok-pairs.ensures ∙ sym (any_of_one in_on (sides_of (a ∷ []) b, c.args.on.now)))
    (c.or.ensures ∙ ap₂ either c.in_ok-left.ensures c.in_ok-right.ensures
    ∙ sym (any_of_append in_keys (keys_opt (sight_of (a ∷ [])) c.args.left.1.now) (keys_opt (sight_of (b ∷ [])) c.args.right.1.now)))
