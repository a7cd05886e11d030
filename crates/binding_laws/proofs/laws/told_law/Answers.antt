use Rattle.binding_laws.proofs.OuterCalls.{gives_told}
use Rattle.binding_laws.proofs.laws.told_law.Goals as goal

pub returns : goal.returns
returns c = gives_told c.causeless_law.ensures c.told_law.ensures.call
