use Rattle.std.proofs.Common.{sym, ap, ap₂, ◌∙◌}
use Rattle.col_sets.specs.Sets.{set_of, union}
use Rattle.col_sets.specs.Listed.{set_of_none, union_set_of}
use Rattle.scope_expr.specs.Moved.{columns}
use Rattle.scope_expr.proofs.MovedLemmas.{columns_pair}
use Rattle.scope_expr.proofs.expr.Expr.+columns.Goals as goal

pub returns-in-Literal : goal.returns-in-Literal
returns-in-Literal t c = rw c.in-Literal.is (c.empty.ensures ∙ sym set_of_none)

pub returns-in-Pair : goal.returns-in-Pair
returns-in-Pair t c =
    rw (c.in-Pair.is, columns_pair)
    (c.union.ensures
    ∙ ap₂ union (c.columns.ensures ∙ ap (λ e. set_of (columns e)) c.get.ensures) (c.columns-in-Pair.ensures ∙ ap (λ e. set_of (columns e)) c.get-in-Pair.ensures)
    ∙ union_set_of (columns c.in-Pair.a) (columns c.in-Pair.b))
