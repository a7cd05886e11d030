use Rattle.std.proofs.Common.{arith}
use Rattle.col_sets.proofs.ColSets.{count_members, members-set}
use Rattle.col_sets.proofs.col_set.ColSet.count.Goals as goal

pub returns-clause-value : goal.returns-clause-value
returns-clause-value c = rw (← c.bits.ensures) (count_members c.bits.result (omega arith))

pub returns-clause-columns : goal.returns-clause-columns
returns-clause-columns c = rw (← c.bits.ensures) (members-set c.bits.result)
