use Rattle.std.proofs.Common.{◌∷◌, [], ◌++◌, map, take, ap, ◌∙◌, sym}
use Rattle.std.proofs.lemmas.List.{map_more}
use Rattle.col_sets.specs.Sets.{columns_where, has}
use Rattle.logical_trees.proofs.AggColumnLemmas.{none_yet, one_more}
use Rattle.logical_trees.proofs.columns.agg_columns.Goals as goal

pub loop-agg-init : goal.loop-agg-init
loop-agg-init c = c.empty-columns.ensures ∙ none_yet

pub loop-agg-preserved : goal.loop-agg-preserved
loop-agg-preserved c =
    let more = map_more (λ a. a.id) c.args.aggs.now c.loop-agg.agg-index c.agg-item.result c.loop-agg-test.true in
    c.with-columns.ensures
    ∙ one_more c.loop-agg.columns (map (λ a. a.id) (take c.loop-agg.agg-index c.args.aggs.now)) c.agg-item.result.id c.loop-agg.invariant
    ∙ ap (λ xs. columns_where (has xs)) (ap (λ a. map (λ b. b.id) (take c.loop-agg.agg-index c.args.aggs.now) ++ a.id ∷ []) c.agg-item.is ∙ sym more)
