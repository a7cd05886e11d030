use Rattle.std.proofs.Common.{◌≡◌, ◌++◌, ℕ, List, IfOk, subst, ap, ◌∙◌}
use Rattle.std.specs.List.{flat_map}
use Rattle.std.proofs.lemmas.List.Folds.{flat_map-map}
use Rattle.names_in_sight.specs.Inputs.{before_of, input_at}
use Rattle.binding_causes.specs.Judging.{judged}
use Rattle.binding_causes.specs.Limits.{one_or_none}
use Rattle.binding_causes.specs.Names.{inputs}
use Rattle.binding_causes.proofs.JudgingLemmas.{on_ok}
use Rattle.binding_causes.proofs.progress.judge_next.Goals as goal

pub returns-clause-near : goal.returns-clause-near
returns-clause-near g c =
    on_ok c.judge.result
    (c.in_ok-push_mentions.ensures
    ∙ ap (λ (more : List ℕ). c.args.near.now.items ++ more)
    (ap (flat_map one_or_none) (c.as_slice.ensures ∙ c.in_ok-numbers.ensures) ∙ flat_map-map one_or_none (input_at c.args.at.now.statements.now) (inputs c.args.statement.now.command)))

pub returns-clause-judged : goal.returns-clause-judged
returns-clause-judged g c =
    let at = c.args.at.now in
    subst (λ (near : List ℕ). IfOk c.judge.result (λ j. j ≡ judged (g.O.Tells.tells c.args.ops.now) at.all.now near (before_of at.statements.now at.headings.now) at.counts.now c.args.statement.now))
    (c.as_slice-2.ensures.value
    ∙ c.in_ok-push_mentions.ensures
    ∙ ap (λ (more : List ℕ). c.args.near.now.items ++ more)
    (ap (flat_map one_or_none) (c.as_slice.ensures ∙ c.in_ok-numbers.ensures) ∙ flat_map-map one_or_none (input_at c.args.at.now.statements.now) (inputs c.args.statement.now.command)))
    c.judge.ensures
