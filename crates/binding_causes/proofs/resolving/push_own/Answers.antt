use Rattle.std.proofs.Common.{◌≡◌, ◌++◌, ℕ, List, OnOk, subst, ap, ◌∙◌}
use Rattle.std.specs.List.{flat_map}
use Rattle.std.proofs.lemmas.List.Folds.{flat_map-map}
use Rattle.names_in_sight.specs.Inputs.{input_at}
use Rattle.binding_causes.specs.Limits.{one_or_none}
use Rattle.binding_causes.specs.Names.{inputs}
use Rattle.binding_causes.proofs.resolving.push_own.Goals as goal

pub returns : goal.returns
returns c =
    subst (λ (more : List ℕ). OnOk c.push_mentions.result (c.push_mentions.new.mentions.items ≡ c.args.mentions.now.items ++ more))
    (ap (flat_map one_or_none) (c.as_slice.ensures ∙ c.in_ok-numbers.ensures) ∙ flat_map-map one_or_none (input_at c.args.earlier.now) (inputs c.args.statement.now.command))
    c.push_mentions.ensures
