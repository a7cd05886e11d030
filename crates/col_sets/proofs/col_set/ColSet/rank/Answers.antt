use Rattle.std.proofs.Common.{sym, ◌∙◌, arith}
use Rattle.col_sets.specs.Columns.{rank_all, has_below}
use Rattle.col_sets.proofs.ColSets.{rank_members, column_not, column_is}
use Rattle.col_sets.proofs.col_set.ColSet.rank.Goals as goal

pub returns-then-not-is_column : goal.returns-then-not-is_column
returns-then-not-is_column c =
    let past = column_not c.args.c (sym c.is_column.ensures ∙ c.if-not-is_column.true) in
    c.count.ensures.value ∙ sym (rank_all c.args.self c.args.c (λ d h. let l = has_below c.args.self c.count.ensures.columns d h in omega arith))

pub returns : goal.returns
returns c = rw (← c.bits.ensures) (rank_members c.bits.result c.args.c c.bits.type_inv (column_is c.args.c (sym c.is_column.ensures ∙ c.if-not-is_column.false)))
