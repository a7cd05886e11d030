use Rattle.scope_expr.proofs.SightLemmas.{one_named}
use Rattle.scope_expr.proofs.laws.scope_law.Goals as goal

pub returns : goal.returns
returns c = λ names r distinct alias. one_named r names.entries alias distinct
