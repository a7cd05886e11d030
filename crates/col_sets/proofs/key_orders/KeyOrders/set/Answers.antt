use Rattle.std.proofs.Common.{◌≡◌, sym, ap, ◌∙◌, take, map, get_or}
use Rattle.std.proofs.lemmas.List.{map_more}
use Rattle.col_sets.specs.declared.dir.Dir.TheVariants.{Up}
use Rattle.col_sets.specs.Sets.{set_of, with_column}
use Rattle.col_sets.specs.Listed.{set_of_none, set_of_more}
use Rattle.col_sets.proofs.key_orders.KeyOrders.set.Goals as goal

pub loop-col-init : goal.loop-col-init
loop-col-init c = c.empty-set.ensures ∙ sym set_of_none

pub loop-col-preserved : goal.loop-col-preserved
loop-col-preserved c =
    c.with-set.ensures
    ∙ ap (λ s. with_column s (get_or (take c.self.inside.used c.self.inside.places) c.loop-col.col-index (0, Up)).0) c.loop-col.invariant
    ∙ set_of_more (map (λ k. k.0) (take c.loop-col.col-index (take c.self.inside.used c.self.inside.places))) (get_or (take c.self.inside.used c.self.inside.places) c.loop-col.col-index (0, Up)).0
    ∙ ap set_of (sym (map_more (λ k. k.0) (take c.self.inside.used c.self.inside.places) c.loop-col.col-index (0, Up) c.loop-col-test.true))
