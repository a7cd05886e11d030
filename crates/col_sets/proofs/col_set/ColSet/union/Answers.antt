use Rattle.std.proofs.Common.{◌∙◌}
use Rattle.col_sets.proofs.ColSets.{members-or}
use Rattle.col_sets.proofs.col_set.ColSet.union.Goals as goal

pub returns : goal.returns
returns c = rw (← c.bits.ensures, ← c.bits-2.ensures) (c.of_bits.ensures ∙ members-or c.bits.result c.bits-2.result)
