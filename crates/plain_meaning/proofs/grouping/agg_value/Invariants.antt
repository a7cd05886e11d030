use Rattle.std.proofs.Common.{◌≡◌, drop}
use Rattle.logical_trees.specs.Rows.{agg_at}
use Rattle.plain_meaning.specs.Steps.{value_of}
use Rattle.plain_meaning.proofs.grouping.agg_value.Given as goal

abbrev pub invariant-loop-agg : goal.invariant-loop-agg
invariant-loop-agg l =
    agg_at (λ a. value_of l.step l.cols a l.rows.items) (drop l.agg-index l.aggs) l.c ≡ agg_at (λ a. value_of l.step l.cols a l.rows.items) l.aggs l.c
