use Rattle.std.proofs.Common.{◌≡◌, ◌∙◌, ap, ap₂, true, codes}
use Rattle.std.proofs.lemmas.Result.{IfOk-weaker}
use Rattle.clap.specs.Words.{app_of, with_rule}
use Rattle.clap.specs.Simple.{app_of_fields, on_top}
use Rattle.clap.specs.declared.builder.command.Command.{Command}
use Rattle.clap.specs.declared.builder.command.Command.TheOpen.{Command-F}
use Rattle.scope_words.specs.Words.{bare_app, scope_app, word_rule, words_app}
use Rattle.scope_words.proofs.found.scope_command.Goals as goal

pub returns : goal.returns
unfolding scope_app
returns c =
    let bare : app_of c.disable_version_flag.result ≡ bare_app =
    ap app_of_fields c.disable_version_flag.ensures
    ∙ (ap (λ (f : Command-F Command). app_of_fields (record f { disable_version_flag = true })) c.disable_help_flag.ensures
    ∙ ap (on_top (λ s. record s { disable_help_flag = true; disable_version_flag = true })) c.new.ensures.app) in
    let one : app_of c.in_ok-arg.field-0 ≡ with_rule bare_app (word_rule (codes "COMMAND")) =
    c.in_ok-arg.ensures.shape c.word.ensures.local ∙ ap₂ with_rule bare c.word.ensures.rule in
    let two : app_of c.in_ok-arg-2.field-0 ≡ words_app =
    c.in_ok-arg-2.ensures.shape c.word-2.ensures.local ∙ ap₂ with_rule one c.word-2.ensures.rule in
    IfOk-weaker c.arg-3.result _ _ (λ m h. h.shape c.option.ensures.local ∙ ap₂ with_rule two c.option.ensures.rule) c.arg-3.ensures
