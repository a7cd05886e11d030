use Rattle.std.proofs.Common.{arith}
use Rattle.scope_expr.proofs.RawLemmas.{some_pair, some_second}
use Rattle.scope_expr.proofs.names.+has_unknown.Goals as goal

pub returns-then-has_unknown : goal.returns-then-has_unknown
returns-then-has_unknown t c = rw (c.in-Pair.is, some_pair) (grind arith)

pub returns-else-has_unknown : goal.returns-else-has_unknown
returns-else-has_unknown t c = rw c.in-Pair.is (some_second _ _ c.in-Pair.field-0 _ _ _ _ _ _ c.get.ensures c.get-else-has_unknown.ensures c.has_unknown.ensures c.if-has_unknown.false c.has_unknown-else-has_unknown.ensures)
