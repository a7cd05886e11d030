use Rattle.normal_meaning.proofs.Stuck.{normal_is, normal_stays}
use Rattle.normal_meaning.proofs.laws.form_law.Goals as goal

pub returns-clause-normal : goal.returns-clause-normal
returns-clause-normal c = normal_is

pub returns-clause-stays : goal.returns-clause-stays
returns-clause-stays c = normal_stays
