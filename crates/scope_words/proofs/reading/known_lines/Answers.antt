use Rattle.scope_words.proofs.Examples.{known}
use Rattle.scope_words.proofs.reading.known_lines.Goals as goal

pub returns : goal.returns
returns c = known
