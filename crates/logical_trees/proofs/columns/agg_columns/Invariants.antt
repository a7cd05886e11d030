use Rattle.std.proofs.Common.{◌≡◌, map, take}
use Rattle.col_sets.specs.Sets.{columns_where, has}
use Rattle.logical_trees.proofs.columns.agg_columns.Given as goal

abbrev pub invariant-loop-agg : goal.invariant-loop-agg
invariant-loop-agg l = l.columns ≡ columns_where (has (map (λ a. a.id) (take l.agg-index l.aggs)))
