use Rattle.script_meaning.proofs.Outer.{gives_outer_join}
use Rattle.script_meaning.proofs.laws.outer_law.Goals as goal

pub returns : goal.returns
returns c = gives_outer_join
