use Rattle.normal_meaning.proofs.Typing.{keeps_predicate, joins_predicates}
use Rattle.normal_meaning.proofs.laws.typed_law.Goals as goal

pub returns-clause-kept : goal.returns-clause-kept
returns-clause-kept c = keeps_predicate

pub returns-clause-joined : goal.returns-clause-joined
returns-clause-joined c = joins_predicates
