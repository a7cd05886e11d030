use Rattle.scope_expr.specs.declared.expr.Expr.TheVariants.{Col}
use Rattle.scope_expr.specs.ValueLemmas.{value_with}
use Rattle.scope_expr.proofs.laws.moved_law.Goals as goal

pub returns : goal.returns
returns c = λ f e cols base row other same. value_with (λ c k. Col (f c) k) cols base row other e same
