use Rattle.std.proofs.Common.{rules}
use Rattle.scope_expr.proofs.RawLemmas.{bound_pair}
use Rattle.scope_expr.proofs.names.+bind.Goals as goal

pub returns-in_ok-b-in-Pair : goal.returns-in_ok-b-in-Pair
returns-in_ok-b-in-Pair t c = rw (c.in-Pair.is, bound_pair) (search rules)
