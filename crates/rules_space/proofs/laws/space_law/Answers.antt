use Rattle.rules_space.proofs.Sound.{memo_is_space}
use Rattle.rules_space.proofs.laws.space_law.Goals as goal

pub returns : goal.returns
returns c = memo_is_space
