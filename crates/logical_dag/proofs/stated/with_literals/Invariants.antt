use Rattle.std.proofs.Common.{◌≡◌, ◌⊎◌, true}
use Rattle.col_sets.specs.Sets.{has}
use Rattle.logical_dag.specs.Known.{AreConstants}
use Rattle.logical_dag.proofs.OneBelow.{OneBelow}
use Rattle.logical_dag.proofs.LiteralFacts.{IsLiteralAt}
use Rattle.logical_dag.proofs.stated.with_literals.Given as goal

abbrev pub invariant-loop-i : goal.invariant-loop-i
invariant-loop-i l = record {
  rest : l.all ≡ record l.fn.into { constants = l.all.constants };
  constants : AreConstants l.all (λ c. (has l.fn.into.constants c ≡ true) ⊎ OneBelow (IsLiteralAt l.items l.cols) l.i c);
}
