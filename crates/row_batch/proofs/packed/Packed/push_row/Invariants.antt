use Rattle.std.proofs.Common.{◌≡◌, ◌++◌, take}
use Rattle.row_batch.proofs.packed.Packed.push_row.Given as goal

abbrev pub invariant-loop-value : goal.invariant-loop-value
invariant-loop-value l = l.self ≡ l.initial.self ++ take l.value-index l.row
