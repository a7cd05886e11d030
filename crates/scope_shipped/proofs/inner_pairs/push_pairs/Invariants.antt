use Rattle.std.proofs.Common.{◌≡◌, ◌++◌, take}
use Rattle.scope_shipped.specs.InnerPairs.{pairs_of}
use Rattle.scope_shipped.proofs.inner_pairs.push_pairs.Given as goal

abbrev pub invariant-loop-row : goal.invariant-loop-row
invariant-loop-row l = l.out.items ≡ l.initial.out.items ++ pairs_of (take l.row-index l.right) l.left
