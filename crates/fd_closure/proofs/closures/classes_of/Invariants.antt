use Rattle.std.proofs.Common.{◌≡◌}
use Rattle.col_sets.specs.Sets.{columns_where}
use Rattle.fd_closure.proofs.Passes.{met}
use Rattle.fd_closure.proofs.closures.classes_of.Given as goal

abbrev pub invariant-loop-c : goal.invariant-loop-c
invariant-loop-c l = l.classes ≡ columns_where (met l.facts l.set l.c)
