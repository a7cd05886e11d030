use Rattle.std.proofs.Common.{◌≡◌, get_or, nat_lt, sym, subst, ◌∙◌, refl, arith}
use Rattle.col_sets.specs.declared.dir.Dir.TheVariants.{Up}
use Rattle.col_sets.specs.Keys.{HasColumn, IsOrderKey}
use Rattle.col_sets.proofs.ColSets.{column_is, column_not, column_test}
use Rattle.col_sets.proofs.KeyLemmas.{key_begins, key_grows, key_ends, key_never, key_whole}
use Rattle.col_sets.proofs.key_orders.KeyOrders.from_slice.Goals as goal

pub loop-col-init : goal.loop-col-init
loop-col-init c = key_begins HasColumn c.in_ok-first.first.now c.in_ok-first.later.now c.args.keys.now c.in_ok-first.ensures.cases.0 c.new-order.result c.new-order.ensures (column_is c.in_ok-first.first.now.0 (sym c.is_column.ensures ∙ c.if-not-is_column.false))

pub loop-col-preserved : goal.loop-col-preserved
loop-col-preserved c =
    key_grows HasColumn c.in_ok-first.first.now c.in_ok-first.later.now c.args.keys.now c.in_ok-first.ensures.cases.0 c.loop-col.order c.push.new.self c.loop-col.col-index (0, Up) (nat_lt (get_or c.in_ok-first.later.now c.loop-col.col-index (0, Up)).0 128)
    c.loop-col.invariant.0 c.loop-col.invariant.1 c.loop-col-test.true (sym c.push.ensures.room ∙ c.if-not-push.false) (column_is (get_or c.in_ok-first.later.now c.loop-col.col-index (0, Up)).0)
    c.if-not-push.ensures.keys

pub returns-then-not-push-clause-some : goal.returns-then-not-push-clause-some
returns-then-not-push-clause-some c = (
  λ h. absurd (cc),
  λ h. absurd (key_ends HasColumn c.in_ok-first.first.now c.in_ok-first.later.now c.args.keys.now c.in_ok-first.ensures.cases.0 c.loop-col.order c.loop-col.col-index (0, Up) (nat_lt (get_or c.in_ok-first.later.now c.loop-col.col-index (0, Up)).0 128)
      c.loop-col.invariant.0 c.loop-col-test.true (sym c.push.ensures.room ∙ c.if-not-push.true) (column_test (get_or c.in_ok-first.later.now c.loop-col.col-index (0, Up)).0) h),
)

pub returns-clause-some : goal.returns-clause-some
returns-clause-some c = (
  λ h. subst IsOrderKey (key_whole HasColumn c.in_ok-first.first.now c.in_ok-first.later.now c.args.keys.now c.in_ok-first.ensures.cases.0 c.loop-col.order c.loop-col.col-index c.loop-col.invariant.0 (omega arith)) c.loop-col.invariant.1,
  λ h. refl,
)

pub returns-clause-keys : goal.returns-clause-keys
returns-clause-keys c = key_whole HasColumn c.in_ok-first.first.now c.in_ok-first.later.now c.args.keys.now c.in_ok-first.ensures.cases.0 c.loop-col.order c.loop-col.col-index c.loop-col.invariant.0 (omega arith)

pub returns-then-not-is_column-clause-some : goal.returns-then-not-is_column-clause-some
returns-then-not-is_column-clause-some c = (
  λ h. absurd (cc),
  λ h. absurd (key_never HasColumn c.in_ok-first.first.now c.in_ok-first.later.now c.args.keys.now c.in_ok-first.ensures.cases.0 (λ p. let past = column_not c.in_ok-first.first.now.0 (sym c.is_column.ensures ∙ c.if-not-is_column.true) in omega arith) h),
)
