use Rattle.resolution_laws.proofs.Within.{within}
use Rattle.resolution_laws.proofs.laws.limits_law.Goals as goal

pub returns : goal.returns
returns c = within c.scope_law.ensures
