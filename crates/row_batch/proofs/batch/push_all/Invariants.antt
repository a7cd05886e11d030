use Rattle.std.proofs.Common.{◌≡◌, ◌++◌, take}
use Rattle.row_batch.proofs.batch.push_all.Given as goal

abbrev pub invariant-loop-place : goal.invariant-loop-place
invariant-loop-place l = l.values ≡ l.initial.values ++ take l.place l.row
