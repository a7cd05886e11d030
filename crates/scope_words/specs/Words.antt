-- The command line `scope run SCRIPT [--sizes FILE]`.
use Rattle.std.specs.Prelude.{Bool, List, [], ◌∷◌, Option, Some, None, true, false, codes, if◌then◌else◌, option_and_then}
use Rattle.std.specs.Str.{bytes_eq}
use Rattle.clap.specs.Words.{App, Kinds, Row, Rule, Text, fault_of, first_of, matches_of, new_app, new_rule, with_rule}
use Rattle.clap.specs.Simple.{on_top}
use Rattle.clap.specs.declared.builder.action.ArgAction.TheVariants.{Set}

-- ---- what clap reads

-- a word that has to stand there
abbrev pub word_rule : Text → Rule
word_rule name = record (new_rule name) { action = Some Set; required = true }

-- `--name VALUE` or `--name=VALUE`
abbrev pub option_rule : Text → Rule
option_rule name = record (new_rule name) { long = Some name; action = Some Set }

abbrev pub bare_app : App
bare_app = on_top (λ s. record s { disable_help_flag = true; disable_version_flag = true }) (new_app (codes "scope"))

abbrev pub words_app : App
words_app = with_rule (with_rule bare_app (word_rule (codes "COMMAND"))) (word_rule (codes "SCRIPT"))

unfoldable pub scope_app : App
scope_app = with_rule words_app (option_rule (codes "sizes"))

abbrev pub is_faultless : Kinds → Bool
is_faultless [] = true
is_faultless (k ∷ ks) = false

-- clap's definition takes the words: no step of it has a fault
unfoldable pub takes_words : List Text → Bool
takes_words words = is_faultless (fault_of scope_app words)

-- what clap's definition finds in words that it takes
unfoldable pub rows_of_words : List Text → List Row
rows_of_words words = matches_of scope_app words

-- ---- the reading

-- the script that is to be run, and the file of sizes
pub record Reading : Type 0 where
  pub script : Text
  pub sizes : Option Text

-- what clap found, read as a reading
unfoldable pub reading_of_texts : Option Text → Option Text → Option Text → Option Reading
reading_of_texts command script sizes =
    option_and_then (λ word. option_and_then (λ name. if bytes_eq word (codes "run") then Some (record { script = name; sizes = sizes }) else None) script) command

abbrev pub reading_of_rows : List Row → Option Reading
reading_of_rows rows = reading_of_texts (first_of (codes "COMMAND") rows) (first_of (codes "SCRIPT") rows) (first_of (codes "sizes") rows)

-- the reading of the words, where they have one
abbrev pub reading_of : List Text → Option Reading
reading_of words = if takes_words words then reading_of_rows (rows_of_words words) else None
