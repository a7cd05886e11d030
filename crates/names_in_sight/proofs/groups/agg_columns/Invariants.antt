use Rattle.std.proofs.Common.{◌≡◌, ◌++◌, ◌+◌, length, drop}
use Rattle.names_in_sight.specs.Views.{agg_columns}
use Rattle.names_in_sight.proofs.groups.agg_columns.Given as goal

abbrev pub invariant-loop-agg : goal.invariant-loop-agg
invariant-loop-agg l = l.columns ++ agg_columns (l.at + length l.columns) (drop l.agg-index l.aggs) ≡ agg_columns l.at l.aggs
