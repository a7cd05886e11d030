use Rattle.resolution_laws.proofs.Placed.{places}
use Rattle.resolution_laws.proofs.laws.places_law.Goals as goal

pub returns : goal.returns
returns c = places
