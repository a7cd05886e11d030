use Rattle.std.proofs.Common.{◌≡◌, ◌≢◌, ◌∙◌, ap, map}
use Rattle.std.specs.String.{string_bytes}
use Rattle.clap.specs.Words.{App, app_of, is_simple, kind_of, matches_of}
use Rattle.clap.specs.declared.error.kind.ErrorKind.TheVariants as kind
use Rattle.scope_words.specs.Words.{rows_of_words, scope_app}
use Rattle.scope_words.proofs.Takes.{is_plain, refused, taken}
use Rattle.scope_words.proofs.found.found.Goals as goal

pub returns-in-Ok-clause-taken : goal.returns-in-Ok-clause-taken
unfolding rows_of_words
returns-in-Ok-clause-taken c =
    let same : app_of c.in_ok-command.command ≡ scope_app = c.in_ok-command.ensures in (
      taken _ (map string_bytes c.args.words.now) c.in-Ok.matches same c.in-Ok.ensures.kinds,
      (c.in-Ok.ensures.matches (ap is_simple same ∙ is_plain)).0 ∙ ap (λ (a : App). matches_of a (map string_bytes c.args.words.now)) same,
    )

pub returns : goal.returns
returns c =
    let same : app_of c.in_ok-command.command ≡ scope_app = c.in_ok-command.ensures in
    let other : kind_of c.in-Err.error ≢ kind.OutOfMemory = λ e. c.in_default.not-OutOfMemory (c.kind.ensures ∙ e) in
    record { taken = tt; refused = refused _ (map string_bytes c.args.words.now) _ c.in-Err.error same other c.in-Err.is c.try_get_matches_from.ensures.kinds }
