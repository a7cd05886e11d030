use Rattle.std.proofs.Common.{arith, rules}
use Rattle.fd_closure.proofs.Built.{dependency_holds, no_dependency_holds}
use Rattle.fd_closure.proofs.facts.Facts.with_dependency.Goals as goal

pub returns-then-c-lt-MAX_COLUMNS-clause-holds : goal.returns-then-c-lt-MAX_COLUMNS-clause-holds
returns-then-c-lt-MAX_COLUMNS-clause-holds c = λ rows hold one. rw c.with.ensures (dependency_holds c.args.self rows hold c.args.c c.args.by (search rules) one)

pub returns-else-c-lt-MAX_COLUMNS-clause-holds : goal.returns-else-c-lt-MAX_COLUMNS-clause-holds
returns-else-c-lt-MAX_COLUMNS-clause-holds c = λ rows hold one. rw c.with.ensures (no_dependency_holds c.args.self rows hold c.args.c (omega arith))
