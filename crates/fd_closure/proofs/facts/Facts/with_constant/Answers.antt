use Rattle.fd_closure.proofs.Built.{constant_holds}
use Rattle.fd_closure.proofs.facts.Facts.with_constant.Goals as goal

pub returns-clause-holds : goal.returns-clause-holds
returns-clause-holds c = λ rows hold one. rw c.with.ensures (constant_holds c.args.self rows hold c.args.c one)
