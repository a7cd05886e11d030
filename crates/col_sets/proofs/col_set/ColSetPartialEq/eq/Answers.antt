use Rattle.col_sets.proofs.ColSets.{eq-members}
use Rattle.col_sets.proofs.col_set.ColSetPartialEq.eq.Goals as goal

pub returns : goal.returns
returns c = rw (← c.bits.ensures, ← c.bits-2.ensures) (eq-members c.bits.result c.bits-2.result c.bits.type_inv c.bits-2.type_inv)
