use Rattle.fd_closure.specs.Laws.{closure_agrees, hold_bag}
use Rattle.fd_closure.proofs.closures.hold_law.Goals as goal

pub returns-clause-closure : goal.returns-clause-closure
returns-clause-closure c = closure_agrees

pub returns-clause-bag : goal.returns-clause-bag
returns-clause-bag c = hold_bag
