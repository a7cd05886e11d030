use Rattle.script_meaning.proofs.Outer.{gives_told_join, are_told_calls}
use Rattle.script_meaning.proofs.laws.told_law.Goals as goal

pub returns-clause-join : goal.returns-clause-join
returns-clause-join c = gives_told_join

pub returns-clause-call : goal.returns-clause-call
returns-clause-call c = are_told_calls
