use Rattle.scope_value.specs.Keys.{keys_cmp_total, keys_cmp-Equal}
use Rattle.scope_value.proofs.laws.key_order_law.Goals as goal

pub returns-clause-total : goal.returns-clause-total
returns-clause-total c = keys_cmp_total

pub returns-clause-exact : goal.returns-clause-exact
returns-clause-exact c = keys_cmp-Equal
