-- The texts that the getters give are those of clap's definition.
use Rattle.std.proofs.Common.{◌≡◌, ◌∙◌, List, Option, true, codes, refl}
use Rattle.clap.specs.Words.{Text, first_value, rows_of}
use Rattle.clap.specs.declared.parser.matches.Found.{Found}
use Rattle.clap.proofs.WalkLemmas.{first_value-rows}
use Rattle.scope_words.specs.Words.{reading_of, reading_of_texts, rows_of_words, takes_words}

pub reads : (f : Found) (words : List Text) (command script sizes : Option Text)
    → takes_words words ≡ true → rows_of f ≡ rows_of_words words
    → command ≡ first_value f (codes "COMMAND") → script ≡ first_value f (codes "SCRIPT") → sizes ≡ first_value f (codes "sizes")
    → reading_of_texts command script sizes ≡ reading_of words
reads f words command script sizes t rows e1 e2 e3 =
    let a1 = e1 ∙ first_value-rows f (codes "COMMAND") in
    let a2 = e2 ∙ first_value-rows f (codes "SCRIPT") in
    let a3 = e3 ∙ first_value-rows f (codes "sizes") in
    rw (t, ← rows, a1, a2, a3) refl
