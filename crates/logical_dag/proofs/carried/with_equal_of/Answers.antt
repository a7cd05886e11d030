use Rattle.std.proofs.Common.{inr}
use Rattle.logical_dag.proofs.carried.with_equal_of.Goals as goal

pub returns-in-Some-first_alike-clause-equal : goal.returns-in-Some-first_alike-clause-equal
returns-in-Some-first_alike-clause-equal c = inr (c.in-Some-first_alike.c, c.in-Some.d, c.in-Some-first_alike.ensures, c.in-Some.is, c.with_equal.ensures.equal)
