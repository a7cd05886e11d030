use Rattle.std.proofs.Common.{◌≡◌, ◌≢◌, ℕ, ◌<◌, true}
use Rattle.col_sets.specs.Sets.{has, rank}
use Rattle.logical_dag.proofs.naming.column_at.Given as goal

abbrev pub invariant-loop-c : goal.invariant-loop-c
invariant-loop-c l = (k : ℕ) → k < l.c → has l.cols k ≡ true → rank l.cols k ≢ l.place
