use Rattle.std.proofs.Common.{sym, ◌∙◌}
use Rattle.col_sets.proofs.ColSets.{members-with, members_beyond, column_not, column_is}
use Rattle.col_sets.proofs.col_set.ColSet.with.Goals as goal

pub returns-then-not-is_column : goal.returns-then-not-is_column
returns-then-not-is_column c =
    rw (← c.bits-bits.ensures) (members_beyond c.bits-bits.result c.args.c (column_not c.args.c (sym c.is_column.ensures ∙ c.if-not-is_column.true)))

pub returns : goal.returns
returns c =
    rw (← c.bits-bits.ensures)
    (c.of_bits.ensures ∙ members-with c.bits-bits.result c.args.c (column_is c.args.c (sym c.is_column.ensures ∙ c.if-not-is_column.false)))
