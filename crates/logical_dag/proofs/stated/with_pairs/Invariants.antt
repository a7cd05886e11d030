use Rattle.std.proofs.Common.{◌≡◌, ◌⊎◌, true}
use Rattle.fd_closure.specs.Known.{equal_of}
use Rattle.logical_dag.specs.Known.{AreClasses}
use Rattle.logical_dag.proofs.PairsBelow.{PairBelow}
use Rattle.logical_dag.proofs.stated.with_pairs.Given as goal

abbrev pub invariant-loop-pair : goal.invariant-loop-pair
invariant-loop-pair l = record {
  rest : l.all ≡ record l.fn.into { class = l.all.class };
  classes : AreClasses l.all (λ c d. (equal_of l.fn.into c d ≡ true) ⊎ PairBelow l.on l.pair-index c d);
}
