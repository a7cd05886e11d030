-- What the definitions see of the code's values.
use Rattle.std.specs.Prelude.{ℕ, List, Option, option_map}
use Rattle.std.specs.Borrow.{Bor}
use Rattle.scope_words.specs.Words as words
use Rattle.scope_words.specs.declared.reading.Reading.{Reading}

abbrev pub text_of : Option (Bor (List ℕ)) → Option (List ℕ)
text_of = option_map (λ s. s.now)

abbrev pub view : Reading → words.Reading
view r = record { script = r.script.now; sizes = text_of r.sizes }
