use Rattle.std.proofs.Common.{◌≡◌, true, sym, ap, ◌∙◌, arith, slice_get}
use Rattle.col_sets.specs.Sets.{has, rank}
use Rattle.col_sets.specs.Columns.{rank_place}
use Rattle.logical_trees.specs.ColumnLemmas.{no_column}
use Rattle.logical_dag.proofs.naming.column_at.Goals as goal

pub returns-then-rank-place : goal.returns-then-rank-place
returns-then-rank-place c =
    let h : has c.args.cols c.loop-c.c ≡ true = sym c.has.ensures ∙ c.if-has.true in
    let e : rank c.args.cols c.loop-c.c ≡ c.args.place = sym c.rank.ensures ∙ c.if-rank-place.true in
    sym (rank_place c.args.cols c.loop-c.c c.count.ensures.columns h) ∙ ap (slice_get c.args.cols) e

pub returns : goal.returns
returns c = no_column c.args.cols c.args.place c.count.ensures.columns (λ k l. c.loop-c.invariant k (omega arith))
