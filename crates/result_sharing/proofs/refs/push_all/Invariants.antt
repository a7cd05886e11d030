use Rattle.std.proofs.Common.{◌≡◌, ◌++◌, take}
use Rattle.result_sharing.proofs.refs.push_all.Given as goal

abbrev pub invariant-loop-k : goal.invariant-loop-k
invariant-loop-k l = l.refs ≡ l.initial.refs ++ take l.k-index l.more
