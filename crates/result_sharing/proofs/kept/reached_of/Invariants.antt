use Rattle.std.proofs.Common.{◌≡◌, drop}
use Rattle.result_sharing.specs.Steps.{reached_from}
use Rattle.result_sharing.proofs.kept.reached_of.Given as goal

-- what the results from k on reach
abbrev pub invariant-loop-k : goal.invariant-loop-k
invariant-loop-k l = l.reached.items ≡ reached_from l.outputs l.k (drop l.k l.refs)
