use Rattle.std.proofs.Common.{◌≡◌, ◌∙◌, ap, refl, sym, rules, ◌+◌, ◌≤◌, length, map}
use Rattle.std.specs.Ordering.{on}
use Rattle.std.specs.List.Sorted.{IsSorted, IsStable}
use Rattle.std.proofs.lemmas.Cmp.{on_total}
use Rattle.std.proofs.lemmas.List.Sorted.{ranks_by, All-permutation}
use Rattle.scope_value.specs.Keys.{keys_cmp, keys_cmp_total}
use Rattle.scope_value.proofs.SortedLemmas.{compares_as, sorted_is}
use Rattle.scope_value.specs.Sorted.{sorted}
use Rattle.row_batch.specs.Rows.{Rows, row_at}
use Rattle.row_batch.proofs.RowLemmas.{sorted_map}
use Rattle.row_batch.proofs.batch.Batch.sort.Goals as goal

pub invariant_of-self-2 : goal.invariant_of-self-2
invariant_of-self-2 c = All-permutation (λ start. start + c.self.inside.width ≤ length c.self.inside.values) _ _ c.sort_by.ensures.permutation c.self.invariant

in_order : (c : goal.In_ok-sort_by) → IsSorted (on (row_at c.self.inside.width c.self.inside.values) (keys_cmp c.args.keys.now.items.items c.args.keys.now.rest)) c.sort_by.new.self.items
in_order c = c.in_ok-sort_by.ensures.sorted _ (ranks_by (on_total (row_at c.self.inside.width c.self.inside.values) (keys_cmp_total _ _)) (λ r. r)) (compares_as (on (row_at c.self.inside.width c.self.inside.values) (keys_cmp c.args.keys.now.items.items c.args.keys.now.rest)) _ (λ a r f' k. search rules))

kept : (c : goal.In_ok-sort_by) → IsStable (on (row_at c.self.inside.width c.self.inside.values) (keys_cmp c.args.keys.now.items.items c.args.keys.now.rest)) c.self.inside.starts.items c.sort_by.new.self.items
kept c = c.in_ok-sort_by.ensures.stable _ (ranks_by (on_total (row_at c.self.inside.width c.self.inside.values) (keys_cmp_total _ _)) (λ r. r)) (compares_as (on (row_at c.self.inside.width c.self.inside.values) (keys_cmp c.args.keys.now.items.items c.args.keys.now.rest)) _ (λ a r f' k. search rules))

pub returns-clause-ok : goal.returns-clause-ok
returns-clause-ok c =
    let f = row_at c.self.inside.width c.self.inside.values in
    let cmp = keys_cmp c.args.keys.now.items.items c.args.keys.now.rest in
    ap (map f) (sorted_is (on_total f (keys_cmp_total _ _)) c.self.inside.starts.items c.sort_by.new.self.items (in_order c) (kept c)) ∙ sorted_map f cmp c.self.inside.starts.items ∙ ap (λ (b : Rows). sorted cmp b.rows) c.self.view_is
