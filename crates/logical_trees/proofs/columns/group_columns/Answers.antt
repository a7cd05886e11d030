use Rattle.std.proofs.Common.{map, ap, ◌∙◌}
use Rattle.col_sets.specs.Sets.{union, columns_where, has}
use Rattle.logical_trees.proofs.AggColumnLemmas.{union_where}
use Rattle.logical_trees.proofs.columns.group_columns.Goals as goal

pub returns : goal.returns
returns c =
    c.union.ensures
    ∙ ap (λ s. union c.args.args.now.keys s) c.agg_columns.ensures
    ∙ ap (λ aggs. union c.args.args.now.keys (columns_where (has (map (λ a. a.id) aggs)))) c.as_slice.ensures
    ∙ union_where c.args.args.now.keys (map (λ a. a.id) c.args.args.now.aggs)
