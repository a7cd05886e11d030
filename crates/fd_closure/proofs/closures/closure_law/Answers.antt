use Rattle.fd_closure.specs.Laws.{closure_least}
use Rattle.fd_closure.proofs.closures.closure_law.Goals as goal

pub returns : goal.returns
returns c = closure_least
