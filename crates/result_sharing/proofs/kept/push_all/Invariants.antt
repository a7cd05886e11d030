use Rattle.std.proofs.Common.{◌≡◌, ◌++◌, take}
use Rattle.result_sharing.proofs.kept.push_all.Given as goal

abbrev pub invariant-loop-k : goal.invariant-loop-k
invariant-loop-k l = l.reached.items ≡ l.initial.reached.items ++ take l.k-index l.more
