use Rattle.std.proofs.Common.{sym, ◌∙◌}
use Rattle.col_sets.specs.Keys.{HasColumn, filled_push}
use Rattle.col_sets.proofs.ColSets.{column_is}
use Rattle.col_sets.proofs.key_orders.KeyOrders.push.Goals as goal

pub invariant_of-self : goal.invariant_of-self
invariant_of-self c =
    filled_push HasColumn _ _ c.self.inside.used c.self.inside.places c.self.invariant c.if-self-ge4.false
    (column_is c.args.col (sym c.is_column.ensures ∙ c.if-not-is_column.false))
