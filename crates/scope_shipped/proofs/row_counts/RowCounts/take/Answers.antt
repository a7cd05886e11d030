use Rattle.std.proofs.Common.{◌≡◌, ◌∙◌, ℕ, Option, Some, None, is_some, unwrap_or, ap, sym, ◌-◌}
use Rattle.std.specs.HashMap.{get}
use Rattle.scope_shipped.specs.MultiSetDifference.{same_row}
use Rattle.scope_shipped.proofs.Counts.{count-less, count-none}
use Rattle.scope_shipped.proofs.row_counts.RowCounts.take.Goals as goal

pub returns-in-None-clause-after : goal.returns-in-None-clause-after
returns-in-None-clause-after c = λ other.
    let none : None ≡ get same_row c.args.self.now.counts c.args.row.now = c.in-None.ensures.value in
    count-none c.args.self.now.counts _ c.args.row.now other 0 c.get_mut.follows.holds-at-none (ap (λ (o : Option ℕ). unwrap_or o 0) (sym none))

pub returns-in-Some-clause-after : goal.returns-in-Some-clause-after
returns-in-Some-clause-after c = λ other.
    let found : Some c.in-Some.count.now ≡ get same_row c.args.self.now.counts c.args.row.now = c.in-Some.ensures.value in
    count-less c.args.self.now.counts (c.get_mut.follows.lender c.take_one.new.count) c.args.row.now other c.take_one.new.count
    ((c.get_mut.follows.holds c.take_one.new.count).3 (ap (λ (o : Option ℕ). is_some o) (sym found))).0
    (c.take_one.ensures.after ∙ ap (λ (o : Option ℕ). unwrap_or o 0 - 1) found)
