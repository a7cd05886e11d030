use Rattle.std.proofs.Common.{◌≡◌, [], ◌∷◌, drop}
use Rattle.logical_trees.specs.Rows.{agg_at, partial_value}
use Rattle.plain_meaning.proofs.grouping.partial_at.Given as goal

abbrev pub invariant-loop-agg : goal.invariant-loop-agg
invariant-loop-agg l =
    agg_at (λ a. partial_value l.cols a (l.row ∷ [])) (drop l.agg-index l.aggs) l.c ≡ agg_at (λ a. partial_value l.cols a (l.row ∷ [])) l.aggs l.c
