use Rattle.scope_syntax.proofs.WrittenLemmas.{written_right}
use Rattle.scope_syntax.proofs.laws.written_law.Goals as goal

pub returns : goal.returns
returns c = written_right
