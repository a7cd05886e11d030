use Rattle.std.proofs.Common.{◌≡◌, ◌<◌, ◌+◌, length, take, get_or, [], ◌∷◌, ◌++◌, sym, ap, ◌∙◌, arith}
use Rattle.std.proofs.lemmas.List.{take_more}
use Rattle.scope_value.specs.Keys.{directed}
use Rattle.scope_value.specs.Order.{value_cmp}
use Rattle.logical_trees.specs.Rows.{first_in}
use Rattle.logical_trees.specs.First.{first_of}
use Rattle.logical_trees.specs.AggregateLemmas.{first_in-push, directed_total, directed_exact}
use Rattle.plain_meaning.proofs.aggregate.first_in.Goals as goal

pub loop-value-preserved : goal.loop-value-preserved
loop-value-preserved c =
    let lt : c.loop-value.value-index < length c.args.values.now.items = omega arith in
    let more : take (c.loop-value.value-index + 1) c.args.values.now.items ≡ take c.loop-value.value-index c.args.values.now.items ++ c.value-item.result ∷ []
    = take_more _ c.loop-value.value-index c.value-item.result lt
    ∙ ap (λ v. take c.loop-value.value-index c.args.values.now.items ++ v ∷ []) (sym (c.value-item.is ∙ ap (λ vs. get_or vs c.loop-value.value-index c.value-item.result) c.deref-value-items.ensures.value)) in
    c.first_of-first.ensures ∙ ap (λ v. first_of (directed c.args.down value_cmp) v c.value-item.result) c.loop-value.invariant
    ∙ sym (first_in-push (directed_total c.args.down) (directed_exact c.args.down) (take c.loop-value.value-index c.args.values.now.items) c.value-item.result)
    ∙ ap (first_in (directed c.args.down value_cmp)) (sym more)
