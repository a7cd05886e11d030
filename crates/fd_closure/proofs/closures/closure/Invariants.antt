use Rattle.std.proofs.Common.{◌≡◌}
use Rattle.fd_closure.specs.Closure.{grow}
use Rattle.fd_closure.proofs.closures.closure.Given as goal

abbrev pub invariant-loop : goal.invariant-loop
invariant-loop l = l.set ≡ grow l.facts l.counter l.fn.from
