use Rattle.std.proofs.Common.{true, rules}
use Rattle.std.specs.List.Sorted.{IsSorted, IsStable}
use Rattle.std.proofs.lemmas.List.Sorted.{ranks_by}
use Rattle.scope_value.specs.Keys.{keys_cmp, keys_cmp_total}
use Rattle.structural_props.specs.Rows.{items}
use Rattle.scope_value.proofs.SortedLemmas.{compares_as, sorted_is}
use Rattle.plain_meaning.proofs.orders.rows_in_order.Goals as goal

in_order : (c : goal.In_ok-sort_by) → IsSorted (keys_cmp (items c.args.cols c.args.order.now) true) c.sort_by.new.self.items
in_order c = c.in_ok-sort_by.ensures.sorted _ (ranks_by (keys_cmp_total (items c.args.cols c.args.order.now) true) (λ r. r)) (compares_as (keys_cmp (items c.args.cols c.args.order.now) true) _ (λ a r f' k. search rules))

kept : (c : goal.In_ok-sort_by) → IsStable (keys_cmp (items c.args.cols c.args.order.now) true) c.args.rows.now c.sort_by.new.self.items
kept c = rw (← c.in_ok-sorted.ensures) (c.in_ok-sort_by.ensures.stable _ (ranks_by (keys_cmp_total (items c.args.cols c.args.order.now) true) (λ r. r)) (compares_as (keys_cmp (items c.args.cols c.args.order.now) true) _ (λ a r f' k. search rules)))

pub returns : goal.returns
returns c = sorted_is (keys_cmp_total (items c.args.cols c.args.order.now) true) c.args.rows.now c.sort_by.new.self.items (in_order c) (kept c)
