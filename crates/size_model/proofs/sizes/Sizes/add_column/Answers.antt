use Rattle.std.proofs.Common.{◌≡◌, Some, is_some, refl, ap, sym}
use Rattle.std.specs.Vec.{vec_items}
use Rattle.size_model.specs.Answers.{under}
use Rattle.size_model.proofs.TableLemmas.{nested_after, on_ok, under_after}
use Rattle.size_model.proofs.sizes.Sizes.add_column.Goals as goal

pub returns-in-Some : goal.returns-in-Some
returns-in-Some c =
    let old = c.args.self.now.columns in
    let name = c.args.name.now in
    let found : Some c.in-Some.columns.now ≡ under vec_items old name = c.in-Some.ensures.value in
    on_ok c.put.result (λ inner. (
      λ n. refl,
      nested_after vec_items vec_items old (c.get_mut.follows.lender c.put.new.table) name c.args.column.now c.args.distinct c.in-Some.columns.now c.put.new.table (sym found)
          (under_after vec_items old (c.get_mut.follows.lender c.put.new.table) name (Some c.put.new.table)
          ((c.get_mut.follows.holds c.put.new.table).3 (ap (λ o. is_some o) (sym found)))) inner,
    )) c.put.ensures
