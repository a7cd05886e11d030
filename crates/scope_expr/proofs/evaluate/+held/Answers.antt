use Rattle.std.proofs.Common.{rules}
use Rattle.scope_expr.specs.ValueLemmas.{value_pair}
use Rattle.scope_expr.proofs.evaluate.+held.Goals as goal

pub returns-in-Pair : goal.returns-in-Pair
returns-in-Pair t c = rw (c.in-Pair.is, value_pair) (search rules)
