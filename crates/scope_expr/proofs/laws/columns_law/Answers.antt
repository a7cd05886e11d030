use Rattle.std.proofs.Common.{◌≡◌, true}
use Rattle.scope_expr.specs.Moved.{columns}
use Rattle.scope_expr.proofs.MovedLemmas.{each_in, in_each}
use Rattle.scope_expr.proofs.laws.columns_law.Goals as goal

pub returns : goal.returns
returns c = λ e. (each_in e (columns e) (λ c h. h), λ p all c h. in_each (λ d. p d ≡ true) e all c h)
