use Rattle.std.proofs.Common.{◌≡◌, ℕ, Option, Some, None, is_some, unwrap_or, ap, sym, ◌+◌}
use Rattle.std.specs.HashMap.{get}
use Rattle.scope_shipped.specs.MultiSetDifference.{same_row}
use Rattle.scope_shipped.proofs.Counts.{count-more, count-first}
use Rattle.scope_shipped.proofs.row_counts.RowCounts.add.Goals as goal

pub returns-in-Some : goal.returns-in-Some
returns-in-Some c = λ other.
    let found : Some c.in-Some.count.now ≡ get same_row c.args.self.now.counts c.args.row.now = c.in-Some.ensures.value in
    count-more c.args.self.now.counts (c.get_mut.follows.lender (c.in-Some.count.now + 1)) c.args.row.now other (c.in-Some.count.now + 1)
    ((c.get_mut.follows.holds (c.in-Some.count.now + 1)).3 (ap (λ (o : Option ℕ). is_some o) (sym found))).0
    (ap (λ (o : Option ℕ). unwrap_or o 0 + 1) found)

pub returns-in_ok-insert-in-None : goal.returns-in_ok-insert-in-None
returns-in_ok-insert-in-None c = λ other.
    let none : None ≡ get same_row c.args.self.now.counts c.args.row.now = c.in-None.ensures.value in
    count-first c.args.self.now.counts c.get_mut.follows.lender-at-none c.insert.new.self c.in_ok-copy-in-None.field-0 c.args.row.now other
    c.in_ok-insert-in-None.ensures.updates.0
    c.get_mut.follows.holds-at-none
    c.in_ok-copy-in-None.ensures
    (ap (λ (o : Option ℕ). unwrap_or o 0) (sym none))
