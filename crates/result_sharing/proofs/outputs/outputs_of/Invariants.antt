use Rattle.std.proofs.Common.{◌≡◌, ◌++◌, drop}
use Rattle.script_meaning.specs.Dag.{outputs_from}
use Rattle.result_sharing.proofs.outputs.outputs_of.Given as goal

-- the OUTPUTs so far, and those among the statements that are left
abbrev pub invariant-loop-at : goal.invariant-loop-at
invariant-loop-at l = l.outputs.items ++ outputs_from l.at (drop l.at l.script) ≡ outputs_from 0 l.script
