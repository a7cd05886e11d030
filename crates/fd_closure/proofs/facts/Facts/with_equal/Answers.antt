use Rattle.std.proofs.Common.{arith}
use Rattle.fd_closure.proofs.Built.{merged_holds, classes_merged}
use Rattle.fd_closure.proofs.facts.Facts.with_equal.Goals as goal

pub returns-clause-equal : goal.returns-clause-equal
returns-clause-equal c = classes_merged c.args.self c.joined_classes.result c.args.c c.args.d (omega arith) (omega arith) (omega arith) (omega arith) c.joined_classes.ensures

pub returns-clause-holds : goal.returns-clause-holds
returns-clause-holds c = λ rows hold one. merged_holds c.args.self rows hold c.joined_classes.result c.args.c c.args.d (classes_merged c.args.self c.joined_classes.result c.args.c c.args.d (omega arith) (omega arith) (omega arith) (omega arith) c.joined_classes.ensures) one
