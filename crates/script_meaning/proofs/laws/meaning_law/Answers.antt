use Rattle.script_meaning.proofs.Given.{gives_meaning}
use Rattle.script_meaning.proofs.laws.meaning_law.Goals as goal

pub returns : goal.returns
returns c = gives_meaning
