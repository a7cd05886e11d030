use Rattle.resolution_laws.proofs.Causeless.{causeless}
use Rattle.resolution_laws.proofs.laws.causeless_law.Goals as goal

pub returns : goal.returns
returns c = causeless
