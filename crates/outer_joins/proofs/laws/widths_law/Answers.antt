use Rattle.outer_joins.proofs.WidthLemmas.{takes_just_widths}
use Rattle.outer_joins.proofs.laws.widths_law.Goals as goal

pub returns : goal.returns
returns c = takes_just_widths
