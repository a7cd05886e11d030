use Rattle.binding_laws.proofs.Whole.{gives_bound}
use Rattle.binding_laws.proofs.laws.bound_law.Goals as goal

pub returns : goal.returns
returns c = gives_bound c.causeless_law.ensures c.places_law.ensures c.limits_law.ensures
