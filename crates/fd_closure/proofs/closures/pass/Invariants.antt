use Rattle.std.proofs.Common.{◌≡◌, ◌||◌, ◌&&◌, nat_lt}
use Rattle.col_sets.specs.Sets.{has}
use Rattle.col_sets.specs.Sets.{columns_where}
use Rattle.fd_closure.specs.Closure.{forces}
use Rattle.fd_closure.proofs.closures.pass.Given as goal

abbrev pub invariant-loop-c : goal.invariant-loop-c
invariant-loop-c l = l.next ≡ columns_where (λ c. has l.set c || (nat_lt c l.c && forces l.facts l.set c))
