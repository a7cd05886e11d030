use Rattle.std.proofs.Common.{◌≡◌, ℕ, false, true, map, sym, ap, ◌∙◌, subst}
use Rattle.std.proofs.lemmas.List.{take_all}
use Rattle.col_sets.specs.declared.dir.Dir.{Dir}
use Rattle.col_sets.specs.Keys.{IsOrderKey}
use Rattle.script_nodes.specs.Steps.{column_at}
use Rattle.script_nodes.proofs.Places.{is_order_key}
use Rattle.script_nodes.proofs.keys.orders_in.Goals as goal

pub unreachable-requires : goal.unreachable-requires
unreachable-requires c =
    let all : c.as_slice.result.now ≡ map {B = ℕ × Dir} (λ k. (column_at c.args.cols.now k.0, k.1)) c.args.order.now =
    c.as_slice.ensures.value ∙ c.loop-place.invariant ∙ ap (map {B = ℕ × Dir} (λ k. (column_at c.args.cols.now k.0, k.1))) (take_all c.loop-place.place-index c.args.order.now c.loop-place-test.false) in
    let key : IsOrderKey c.as_slice.result.now = subst IsOrderKey (sym all) (is_order_key c.args.cols.now c.args.order.now c.requires.few c.requires.there c.requires.columns) in
    let some = rw c.in-None.is at c.from_slice.ensures.some in
    let no : false ≡ true = some.1 key in
    (cc)
