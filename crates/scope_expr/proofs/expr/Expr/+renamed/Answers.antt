use Rattle.std.proofs.Common.{rules}
use Rattle.scope_expr.specs.Moved.{name_in}
use Rattle.scope_expr.proofs.MovedLemmas.{moved_pair}
use Rattle.scope_expr.proofs.expr.Expr.+renamed.Goals as goal

pub returns-in_ok-b-in-Pair : goal.returns-in_ok-b-in-Pair
returns-in_ok-b-in-Pair t c = rw (c.in-Pair.is, moved_pair (name_in c.args.names.now)) (search rules)
