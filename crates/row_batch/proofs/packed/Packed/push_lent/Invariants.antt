use Rattle.std.proofs.Common.{◌≡◌, ◌++◌, take, map}
use Rattle.scope_value.specs.Lent.{held}
use Rattle.row_batch.proofs.packed.Packed.push_lent.Given as goal

abbrev pub invariant-loop-value : goal.invariant-loop-value
invariant-loop-value l = l.self ≡ l.initial.self ++ map held (take l.value-index l.row)
