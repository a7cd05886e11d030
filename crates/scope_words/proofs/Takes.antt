-- A parse of the command tells whether clap's definition takes the words.
use Rattle.std.proofs.Common.{◌≡◌, ◌≢◌, ◌∙◌, ◌⊎◌, List, [], ◌∷◌, Ok, Err, Result, true, false, ap, refl, inl, inr}
use Rattle.clap.specs.Words.{App, FailsBy, IsAmong, Kinds, Text, fault_of, is_simple, is_simple_and_free, kind_of}
use Rattle.clap.specs.declared.error.Error.{Error}
use Rattle.clap.specs.declared.error.kind.ErrorKind.{ErrorKind}
use Rattle.clap.specs.declared.error.kind.ErrorKind.TheVariants as kind
use Rattle.clap.proofs.OnLiterals.{clap_on_literals}
use Rattle.scope_words.specs.Words.{is_faultless, scope_app, takes_words}

pub is_free : is_simple_and_free scope_app ≡ true
unfolding scope_app clap_on_literals
is_free = refl

pub is_plain : is_simple scope_app ≡ true
unfolding scope_app clap_on_literals
is_plain = refl

some_kind : (k : ErrorKind) (kinds : Kinds) → IsAmong k kinds → is_faultless kinds ≡ false
some_kind k [] h = absurd h
some_kind k (x ∷ xs) h = refl

-- at `Ok`
pub taken : {T : Type 0} (a : App) (words : List Text) (m : T) → a ≡ scope_app
    → (is_simple_and_free a ≡ true → FailsBy (fault_of a words) (Ok m)) → takes_words words ≡ true
unfolding takes_words
taken a words m e h = rw (← e, h (ap is_simple_and_free e ∙ is_free)) refl

-- at an `Err` that is not of memory
pub refused : {T : Type 0} (a : App) (words : List Text) (r : Result T Error) (e : Error) → a ≡ scope_app → kind_of e ≢ kind.OutOfMemory
    → r ≡ Err e → (is_simple_and_free a ≡ true → FailsBy (fault_of a words) r) → takes_words words ≡ false
unfolding takes_words
refused a words r e same other is h = rw (← same) (pick (rw is at (h (ap is_simple_and_free same ∙ is_free))))
  where
    pick : (kind_of e ≡ kind.OutOfMemory) ⊎ IsAmong (kind_of e) (fault_of a words) → is_faultless (fault_of a words) ≡ false
    pick (inl x) = absurd (other x)
    pick (inr x) = some_kind (kind_of e) _ x
