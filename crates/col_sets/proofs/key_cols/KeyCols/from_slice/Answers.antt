use Rattle.std.proofs.Common.{◌≡◌, get_or, nat_lt, sym, subst, ◌∙◌, refl, arith}
use Rattle.col_sets.specs.Keys.{IsBelow, IsKey}
use Rattle.col_sets.proofs.ColSets.{column_is, column_not, column_test}
use Rattle.col_sets.proofs.KeyLemmas.{key_begins, key_grows, key_ends, key_never, key_whole}
use Rattle.col_sets.proofs.key_cols.KeyCols.from_slice.Goals as goal

pub loop-c-init : goal.loop-c-init
loop-c-init c = key_begins IsBelow c.in_ok-first.first.now c.in_ok-first.later.now c.args.cols.now c.in_ok-first.ensures.cases.0 c.new-key.result c.new-key.ensures (column_is c.in_ok-first.first.now (sym c.is_column.ensures ∙ c.if-not-is_column.false))

pub loop-c-preserved : goal.loop-c-preserved
loop-c-preserved c =
    key_grows IsBelow c.in_ok-first.first.now c.in_ok-first.later.now c.args.cols.now c.in_ok-first.ensures.cases.0 c.loop-c.key c.push.new.self c.loop-c.c-index 0 (nat_lt (get_or c.in_ok-first.later.now c.loop-c.c-index 0) 128)
    c.loop-c.invariant.0 c.loop-c.invariant.1 c.loop-c-test.true (sym c.push.ensures.room ∙ c.if-not-push.false) (column_is (get_or c.in_ok-first.later.now c.loop-c.c-index 0))
    c.if-not-push.ensures.cols

pub returns-then-not-push-clause-some : goal.returns-then-not-push-clause-some
returns-then-not-push-clause-some c = (
  λ h. absurd (cc),
  λ h. absurd (key_ends IsBelow c.in_ok-first.first.now c.in_ok-first.later.now c.args.cols.now c.in_ok-first.ensures.cases.0 c.loop-c.key c.loop-c.c-index 0 (nat_lt (get_or c.in_ok-first.later.now c.loop-c.c-index 0) 128)
      c.loop-c.invariant.0 c.loop-c-test.true (sym c.push.ensures.room ∙ c.if-not-push.true) (column_test (get_or c.in_ok-first.later.now c.loop-c.c-index 0)) h),
)

pub returns-clause-some : goal.returns-clause-some
returns-clause-some c = (
  λ h. subst IsKey (key_whole IsBelow c.in_ok-first.first.now c.in_ok-first.later.now c.args.cols.now c.in_ok-first.ensures.cases.0 c.loop-c.key c.loop-c.c-index c.loop-c.invariant.0 (omega arith)) c.loop-c.invariant.1,
  λ h. refl,
)

pub returns-clause-cols : goal.returns-clause-cols
returns-clause-cols c = key_whole IsBelow c.in_ok-first.first.now c.in_ok-first.later.now c.args.cols.now c.in_ok-first.ensures.cases.0 c.loop-c.key c.loop-c.c-index c.loop-c.invariant.0 (omega arith)

pub returns-then-not-is_column-clause-some : goal.returns-then-not-is_column-clause-some
returns-then-not-is_column-clause-some c = (
  λ h. absurd (cc),
  λ h. absurd (key_never IsBelow c.in_ok-first.first.now c.in_ok-first.later.now c.args.cols.now c.in_ok-first.ensures.cases.0 (λ p. let past = column_not c.in_ok-first.first.now (sym c.is_column.ensures ∙ c.if-not-is_column.true) in omega arith) h),
)
