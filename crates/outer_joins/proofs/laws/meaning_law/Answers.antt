use Rattle.outer_joins.proofs.WidthLemmas.{gives_outer_pairs}
use Rattle.outer_joins.proofs.laws.meaning_law.Goals as goal

pub returns : goal.returns
returns c = gives_outer_pairs
