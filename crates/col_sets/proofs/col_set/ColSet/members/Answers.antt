use Rattle.std.proofs.Common.{◌≡◌, ◌≤◌, length, true, false, sym, ap, ◌∙◌, arith}
use Rattle.std.specs.List.{filter, range_with_len}
use Rattle.std.proofs.lemmas.List.FromFn.{length-range_with_len}
use Rattle.col_sets.specs.Sets.{has, columns_where}
use Rattle.col_sets.specs.Columns.{range_step}
use Rattle.col_sets.proofs.ColSets.{length-filter_range}
use Rattle.col_sets.proofs.col_set.ColSet.members.Goals as goal
use Rattle.col_sets.proofs.col_set.ColSet.members.Goals.{then-has, else-has}

pub push-requires : goal.push-requires
push-requires c =
    let few : length c.loop-c.columns.items ≤ c.loop-c.c = rw c.loop-c.invariant (length-filter_range (has c.args.self) c.loop-c.c) in
    (omega arith, omega arith)

pub loop-c-preserved : goal.loop-c-preserved
loop-c-preserved c =
    elim c.if-has.branch [
      | then-has w ↦ range_step (has c.args.self) c.loop-c.c _ _ true c.loop-c.invariant (sym c.has.ensures ∙ w.if-has.true) (ap (λ v. v.items) w.columns-is ∙ w.push.ensures.items)
      | else-has w ↦ range_step (has c.args.self) c.loop-c.c _ _ false c.loop-c.invariant (sym c.has.ensures ∙ w.if-has.false) (ap (λ v. v.items) w.columns-is)
    ]

pub returns-clause-value : goal.returns-clause-value
unfolding columns_where
returns-clause-value c =
    let end : c.loop-c.c ≡ 128 = omega arith in
    c.loop-c.invariant ∙ ap (λ n. filter (has c.args.self) (range_with_len 0 n)) end ∙ c.count.ensures.columns

pub returns-clause-columns : goal.returns-clause-columns
returns-clause-columns c = c.count.ensures.columns
