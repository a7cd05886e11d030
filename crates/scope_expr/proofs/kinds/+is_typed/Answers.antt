use Rattle.std.proofs.Common.{rules, arith}
use Rattle.std.proofs.lemmas.Grind.{common_steps}
use Rattle.scope_expr.proofs.ExprLemmas.{typed_pair}
use Rattle.scope_expr.proofs.kinds.+is_typed.Goals as goal
use Rattle.scope_expr.proofs.kinds.+is_typed.Goals.{then-is_typed-3, else-is_typed-3}

pub returns-then-is_typed-4 : goal.returns-then-is_typed-4
returns-then-is_typed-4 t c = rw (c.in-Pair.is, typed_pair) (elim c.if-is_typed-3.branch [ then-is_typed-3 w ↦ first_of (search rules, grind (arith, common_steps)) | else-is_typed-3 w ↦ absurd (cc) ])

pub returns-else-is_typed-4 : goal.returns-else-is_typed-4
returns-else-is_typed-4 t c = rw (c.in-Pair.is, typed_pair) (elim c.if-is_typed-3.branch [ then-is_typed-3 w ↦ first_of (search rules, grind (arith, common_steps)) | else-is_typed-3 w ↦ first_of (search rules, grind (arith, common_steps)) ])
