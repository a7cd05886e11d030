-- So far each pair that lies inside has been set equal.
use Rattle.std.proofs.Common.{◌≡◌, take}
use Rattle.logical_dag.specs.Known.{AreClasses}
use Rattle.logical_dag.proofs.PairFacts.{EqualOrInside}
use Rattle.logical_dag.proofs.block_pairs.with_pairs.Given as goal

abbrev pub invariant-loop-a : goal.invariant-loop-a
invariant-loop-a l = record {
  rest : l.all ≡ record l.fn.facts { class = l.all.class };
  classes : AreClasses l.all (EqualOrInside l.fn.facts (take l.a-index l.pairs));
}
