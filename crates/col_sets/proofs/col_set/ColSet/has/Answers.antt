use Rattle.std.proofs.Common.{sym, ap, ◌∙◌, nat_eq}
use Rattle.std.proofs.lemmas.Nat.Bits.{shr_and_one}
use Rattle.col_sets.proofs.ColSets.{has-members, has_not, column_is}
use Rattle.col_sets.proofs.col_set.ColSet.has.Goals as goal

pub returns-then-is_column : goal.returns-then-is_column
returns-then-is_column c =
    rw (← c.bits-bits.ensures)
    (ap (λ v. nat_eq v 1) (shr_and_one c.bits-bits.result c.args.c)
    ∙ sym (has-members c.bits-bits.result c.args.c (column_is c.args.c (sym c.is_column.ensures ∙ c.if-is_column.true))))

pub returns-else-is_column : goal.returns-else-is_column
returns-else-is_column c =
    rw (← c.bits-bits.ensures) (c.if-is_column.false ∙ sym (has_not c.bits-bits.result c.args.c (sym c.is_column.ensures ∙ c.if-is_column.false)))
