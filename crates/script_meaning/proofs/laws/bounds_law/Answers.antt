use Rattle.script_meaning.proofs.Bounded.{gives_bounded}
use Rattle.script_meaning.proofs.laws.bounds_law.Goals as goal

pub returns : goal.returns
returns c = gives_bounded
