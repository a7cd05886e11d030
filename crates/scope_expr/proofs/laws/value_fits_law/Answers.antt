use Rattle.scope_expr.proofs.FitLemmas.{fits_value}
use Rattle.scope_expr.proofs.laws.value_fits_law.Goals as goal

pub returns : goal.returns
returns c = fits_value
