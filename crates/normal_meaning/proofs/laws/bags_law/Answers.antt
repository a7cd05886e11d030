use Rattle.normal_meaning.proofs.Sunk.{normal_same}
use Rattle.normal_meaning.proofs.laws.bags_law.Goals as goal

pub returns : goal.returns
returns c = normal_same
