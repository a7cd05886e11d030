use Rattle.scope_lexer.proofs.Readings.{each_of, order_of}
use Rattle.scope_lexer.proofs.laws.tokens_stand.Goals as goal

pub returns-clause-order : goal.returns-clause-order
returns-clause-order c = order_of

pub returns-clause-each : goal.returns-clause-each
returns-clause-each c = each_of
