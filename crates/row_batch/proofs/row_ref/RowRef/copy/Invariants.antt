use Rattle.std.proofs.Common.{◌≡◌, take}
use Rattle.row_batch.proofs.row_ref.RowRef.copy.Given as goal

abbrev pub invariant-loop-place : goal.invariant-loop-place
invariant-loop-place l = l.row ≡ take l.place l.self
