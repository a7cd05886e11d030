use Rattle.std.proofs.Common.{◌≡◌, pos, neg_ℤ, ◌≤ℤ◌, take}
use Rattle.logical_trees.specs.Rows.{total}
use Rattle.plain_meaning.specs.Sums.{sum_of}
use Rattle.plain_meaning.proofs.exact_sum.total.Given as goal

abbrev pub invariant-loop-value : goal.invariant-loop-value
invariant-loop-value l = record {
  value : sum_of l.sum ≡ total (take l.value-index l.values);
  low : neg_ℤ (pos l.value-index) ≤ℤ l.sum.turns;
  high : l.sum.turns ≤ℤ pos l.value-index;
}
