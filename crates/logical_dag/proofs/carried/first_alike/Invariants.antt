use Rattle.std.proofs.Common.{◌≡◌, ℕ, ◌<◌, true, None}
use Rattle.fd_closure.specs.Known.{equal_of}
use Rattle.logical_dag.specs.Known.{name_of}
use Rattle.logical_dag.proofs.carried.first_alike.Given as goal

abbrev pub invariant-loop-a : goal.invariant-loop-a
invariant-loop-a l = (k : ℕ) → k < l.a → equal_of l.from k l.b ≡ true → name_of l.names k ≡ None
