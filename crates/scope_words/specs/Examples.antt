-- Command lines and their readings.
use Rattle.std.specs.Prelude.{◌≡◌, List, [], ◌∷◌, Some, None, codes, option_map}
use Rattle.clap.specs.Words.{Text}
use Rattle.scope_words.specs.Words.{Reading, reading_of}

abbrev pub line : List Text → List Text
line rest = codes "scope" ∷ codes "run" ∷ codes "s" ∷ rest

abbrev pub plain : Reading
plain = record { script = codes "s"; sizes = None }

abbrev pub sized : Reading
sized = record { script = codes "s"; sizes = Some (codes "z") }

pub record KnownLines : Type 0 where
  pub bare : reading_of (line []) ≡ Some plain
  pub apart : reading_of (line (codes "--sizes" ∷ codes "z" ∷ [])) ≡ Some sized
  pub joined : reading_of (line (codes "--sizes=z" ∷ [])) ≡ Some sized
  pub first : reading_of (codes "scope" ∷ codes "--sizes" ∷ codes "z" ∷ codes "run" ∷ codes "s" ∷ []) ≡ Some sized
  pub dash : reading_of (line (codes "--sizes=-z" ∷ [])) ≡ Some (record plain { sizes = Some (codes "-z") })
  pub empty_value : reading_of (line (codes "--sizes=" ∷ [])) ≡ Some (record plain { sizes = Some [] })
  pub no_value : reading_of (line (codes "--sizes" ∷ [])) ≡ None
  pub option_as_value : reading_of (line (codes "--sizes" ∷ codes "-z" ∷ [])) ≡ None
  pub twice : reading_of (line (codes "--sizes=z" ∷ codes "--sizes=z" ∷ [])) ≡ None
  pub shortened : reading_of (line (codes "--size" ∷ codes "z" ∷ [])) ≡ None
  pub other_option : reading_of (line (codes "--seed" ∷ codes "7" ∷ [])) ≡ None
  pub help : reading_of (line (codes "--help" ∷ [])) ≡ None
  pub version : reading_of (line (codes "--version" ∷ [])) ≡ None
  pub stray : reading_of (line (codes "t" ∷ [])) ≡ None
  pub no_script : reading_of (codes "scope" ∷ codes "run" ∷ []) ≡ None
  pub other_command : reading_of (codes "scope" ∷ codes "plan" ∷ codes "s" ∷ []) ≡ None
  pub other_case : reading_of (codes "scope" ∷ codes "RUN" ∷ codes "s" ∷ []) ≡ None
  pub trailing : reading_of (codes "scope" ∷ codes "run" ∷ codes "--" ∷ codes "s" ∷ []) ≡ Some plain
  pub dashes : option_map (λ r. r.script) (reading_of (codes "scope" ∷ codes "run" ∷ codes "--" ∷ codes "--s" ∷ [])) ≡ Some (codes "--s")
  pub dash_alone : option_map (λ r. r.script) (reading_of (codes "scope" ∷ codes "run" ∷ codes "-" ∷ [])) ≡ Some (codes "-")
  pub empty_word : reading_of (codes "scope" ∷ codes "run" ∷ [] ∷ []) ≡ Some (record plain { script = [] })
  pub other_name : reading_of (codes "t" ∷ codes "run" ∷ codes "s" ∷ []) ≡ Some plain
  pub no_words : reading_of [] ≡ None
