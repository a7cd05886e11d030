use Rattle.normal_meaning.proofs.Whole.{keeps_given, normal_gives, normal_alone, normal_bindable}
use Rattle.normal_meaning.proofs.laws.dag_law.Goals as goal

pub returns-clause-kept : goal.returns-clause-kept
returns-clause-kept c = keeps_given

pub returns-clause-means : goal.returns-clause-means
returns-clause-means c = normal_gives

pub returns-clause-bindable : goal.returns-clause-bindable
returns-clause-bindable c = normal_bindable

pub returns-clause-alone : goal.returns-clause-alone
returns-clause-alone c = normal_alone
