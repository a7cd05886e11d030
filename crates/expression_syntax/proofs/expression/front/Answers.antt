use Rattle.std.proofs.Common.{arith}
use Rattle.expression_syntax.proofs.Parts.{all_is, front_is}
use Rattle.expression_syntax.proofs.expression.front.Goals as goal

pub returns-then-all-gt-MAX_EXPRESSION : goal.returns-then-all-gt-MAX_EXPRESSION
returns-then-all-gt-MAX_EXPRESSION c = front_is 201 c.args.all.now

pub returns-else-all-gt-MAX_EXPRESSION : goal.returns-else-all-gt-MAX_EXPRESSION
returns-else-all-gt-MAX_EXPRESSION c = all_is 201 c.args.all.now (omega arith)
