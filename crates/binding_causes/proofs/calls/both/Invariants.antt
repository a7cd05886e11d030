use Rattle.std.proofs.Common.{◌≡◌, ◌++◌, take}
use Rattle.binding_causes.proofs.calls.both.Given as goal

abbrev pub invariant-loop-column : goal.invariant-loop-column
invariant-loop-column l = l.columns ≡ l.left ++ take l.column-index l.right
