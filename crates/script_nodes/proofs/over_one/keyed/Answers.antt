use Rattle.std.proofs.Common.{ℕ, List, sym, ◌∙◌, subst}
use Rattle.col_sets.specs.Sets.{IsColumnSet}
use Rattle.column_ranks.specs.Rising.{IsRising}
use Rattle.script_nodes.proofs.Standing.{keys_rise, rises_set}
use Rattle.script_nodes.proofs.over_one.keyed.Goals as goal

pub group_in-requires-clause-set : goal.group_in-requires-clause-set
group_in-requires-clause-set c =
    let made = c.args.made.now in
    let rises : IsRising 0 c.as_slice-cols.result.now made.next = subst (λ (s : List ℕ). IsRising 0 s made.next) (sym c.as_slice-cols.ensures.value) made.rises in
    subst IsColumnSet (sym (c.as_slice-2.ensures.value ∙ c.in_ok-keys.ensures)) (rises_set made.next _ (keys_rise c.as_slice-cols.result.now c.as_slice.result.now made.next rises) made.few)
