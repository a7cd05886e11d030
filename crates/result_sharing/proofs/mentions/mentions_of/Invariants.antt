use Rattle.std.proofs.Common.{◌≡◌, ◌++◌, [], take, drop}
use Rattle.script_meaning.specs.Bound.{mentions}
use Rattle.result_sharing.proofs.mentions.mentions_of.Given as goal

-- the mentions so far, and those of the statements that are left
abbrev pub invariant-loop-at : goal.invariant-loop-at
invariant-loop-at l = l.mentions.items ++ mentions (take l.at l.script) (drop l.at l.script) ≡ mentions [] l.script
