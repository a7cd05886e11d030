use Rattle.std.proofs.Common.{◌≡◌, ◌⊎◌, true}
use Rattle.fd_closure.specs.Known.{equal_of}
use Rattle.logical_dag.specs.Known.{AreClasses}
use Rattle.logical_dag.proofs.ItemFacts.{SameItemsBelow}
use Rattle.logical_dag.proofs.stated.with_same_items.Given as goal

abbrev pub invariant-loop-j : goal.invariant-loop-j
invariant-loop-j l = record {
  rest : l.all ≡ record l.fn.into { class = l.all.class };
  classes : AreClasses l.all (λ c d. (equal_of l.fn.into c d ≡ true) ⊎ SameItemsBelow l.items l.cols l.j c d);
}
