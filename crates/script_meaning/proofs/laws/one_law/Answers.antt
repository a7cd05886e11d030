use Rattle.script_meaning.proofs.OneResult.{gives_one, gives_some, gives_meaning_alone}
use Rattle.script_meaning.proofs.laws.one_law.Goals as goal

pub returns-clause-one : goal.returns-clause-one
returns-clause-one c = gives_one

pub returns-clause-alone : goal.returns-clause-alone
returns-clause-alone c = gives_meaning_alone

pub returns-clause-some : goal.returns-clause-some
returns-clause-some c = gives_some
