use Rattle.std.proofs.Common.{arith}
use Rattle.scope_expr.proofs.RawLemmas.{some_pair, some_second}
use Rattle.scope_expr.proofs.names.+has_ambiguous.Goals as goal

pub returns-then-has_ambiguous : goal.returns-then-has_ambiguous
returns-then-has_ambiguous t c = rw (c.in-Pair.is, some_pair) (grind arith)

pub returns-else-has_ambiguous : goal.returns-else-has_ambiguous
returns-else-has_ambiguous t c = rw c.in-Pair.is (some_second _ _ c.in-Pair.field-0 _ _ _ _ _ _ c.get.ensures c.get-else-has_ambiguous.ensures c.has_ambiguous.ensures c.if-has_ambiguous.false c.has_ambiguous-else-has_ambiguous.ensures)
