use Rattle.scope_value.specs.Order.{value_cmp_total, value_cmp-Equal}
use Rattle.scope_value.proofs.laws.value_order_law.Goals as goal

pub returns-clause-total : goal.returns-clause-total
returns-clause-total c = value_cmp_total

pub returns-clause-exact : goal.returns-clause-exact
returns-clause-exact c = value_cmp-Equal
