use Rattle.std.proofs.Common.{ap, ap₂, ◌∙◌}
use Rattle.names_in_sight.specs.Inputs.{Before, before_of}
use Rattle.user_ops.specs.Told.{Operators}
use Rattle.binding_causes.specs.declared.found.Found.{Found}
use Rattle.binding_causes.specs.declared.seen.Seen.{Seen}
use Rattle.binding_causes.specs.Found.{either}
use Rattle.binding_causes.specs.Judging.{seen_whole}
use Rattle.binding_causes.proofs.FoundLemmas.{tests_are}
use Rattle.binding_causes.proofs.judging.seen_whole.Goals as goal

pub returns : goal.returns
returns g c =
    let told : Operators = g.O.Tells.tells c.args.ops.now in
    let at = c.args.at.now in
    let before : Before = before_of at.statements.now at.headings.now in
    let found = c.or.ensures ∙ ap₂ either (ap (λ (s : Seen). s.found) c.in_ok-seen.ensures) c.in_ok-inline.ensures ∙ tests_are told before c.args.command.now in
    ap (λ (f : Found). record c.in_ok-seen.seen { found = f }) found
    ∙ ap (λ (s : Seen). record s { found = (seen_whole told at.all.now before at.counts.now c.args.command.now).found }) c.in_ok-seen.ensures
