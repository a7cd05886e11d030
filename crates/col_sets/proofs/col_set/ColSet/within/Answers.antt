use Rattle.col_sets.proofs.ColSets.{within-members}
use Rattle.col_sets.proofs.col_set.ColSet.within.Goals as goal

pub returns : goal.returns
returns c = rw (← c.bits.ensures, ← c.bits-all.ensures) (within-members c.bits.result c.bits-all.result c.bits-all.type_inv c.bits.type_inv)
