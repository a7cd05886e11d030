use Rattle.scope_expr.proofs.ScopeLemmas.{typed_typed, typed_columns}
use Rattle.scope_expr.proofs.laws.typed_law.Goals as goal

pub returns-clause-operands : goal.returns-clause-operands
returns-clause-operands c = typed_typed

pub returns-clause-columns : goal.returns-clause-columns
returns-clause-columns c = typed_columns
