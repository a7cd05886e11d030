use Rattle.user_ops.proofs.FitLemmas.{RowFits-length}
use Rattle.user_ops.proofs.laws.width_law.Goals as goal

pub returns : goal.returns
returns c = RowFits-length
