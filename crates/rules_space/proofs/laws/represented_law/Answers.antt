use Rattle.rules_space.proofs.Whole.{represented}
use Rattle.rules_space.proofs.laws.represented_law.Goals as goal

pub returns : goal.returns
returns c = represented
