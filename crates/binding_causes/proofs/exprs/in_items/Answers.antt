use Rattle.binding_causes.specs.Found.{in_expr}
use Rattle.binding_causes.proofs.FoundLemmas.{any_of_map}
use Rattle.binding_causes.proofs.exprs.in_items.Goals as goal

pub returns-in-Listed : goal.returns-in-Listed
returns-in-Listed c =
    rw (c.in-Listed.is, any_of_map in_expr (λ x. (c.args.names.now, x.expr)) c.in-Listed.items) (rw c.as_slice.ensures at c.in_each_item.ensures)
