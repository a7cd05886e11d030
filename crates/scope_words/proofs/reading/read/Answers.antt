use Rattle.std.proofs.Common.{◌∙◌, map}
use Rattle.std.specs.String.{string_bytes}
use Rattle.clap.specs.Words.{found_of}
use Rattle.scope_words.proofs.TextsFound.{reads}
use Rattle.scope_words.proofs.reading.read.Goals as goal

pub returns : goal.returns
returns c =
    let found = rw c.in-Some.is at c.in_ok-matches.ensures.taken in
    c.from_texts.ensures
    ∙ reads (found_of c.in-Some.matches) (map string_bytes c.args.words.now) _ _ _ found.0 found.1
    c.get_str.ensures c.get_str-2.ensures c.get_str-3.ensures
