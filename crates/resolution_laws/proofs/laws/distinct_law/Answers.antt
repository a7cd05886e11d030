use Rattle.resolution_laws.proofs.Distinct.{distinct_in_sight}
use Rattle.resolution_laws.proofs.laws.distinct_law.Goals as goal

pub returns : goal.returns
returns c = distinct_in_sight
