use Rattle.std.proofs.Common.{refl}
use Rattle.clap.proofs.OnLiterals.{clap_on_literals}
use Rattle.scope_words.specs.Words.{reading_of_texts, rows_of_words, scope_app, takes_words}
use Rattle.scope_words.specs.Examples.{KnownLines}

pub known : KnownLines
unfolding clap_on_literals scope_app takes_words rows_of_words reading_of_texts
known = record {
  bare = refl;
  apart = refl;
  joined = refl;
  first = refl;
  dash = refl;
  empty_value = refl;
  no_value = refl;
  option_as_value = refl;
  twice = refl;
  shortened = refl;
  other_option = refl;
  help = refl;
  version = refl;
  stray = refl;
  no_script = refl;
  other_command = refl;
  other_case = refl;
  trailing = refl;
  dashes = refl;
  dash_alone = refl;
  empty_word = refl;
  other_name = refl;
  no_words = refl;
}
