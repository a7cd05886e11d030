use Rattle.std.proofs.Common.{◌∙◌}
use Rattle.col_sets.proofs.ColSets.{no_members}
use Rattle.col_sets.proofs.col_set.ColSet.empty.Goals as goal

pub returns : goal.returns
returns c = c.of_bits.ensures ∙ no_members
