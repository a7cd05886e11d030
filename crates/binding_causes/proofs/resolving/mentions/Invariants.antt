use Rattle.std.proofs.Common.{◌≡◌, ◌++◌, [], take, drop}
use Rattle.binding_causes.specs.Limits.{mentions}
use Rattle.binding_causes.proofs.resolving.mentions.Given as goal

-- the mentions so far, and those of the statements that are left
abbrev pub invariant-loop-at : goal.invariant-loop-at
invariant-loop-at l = l.all.items ++ mentions (take l.at l.statements) (drop l.at l.statements) ≡ mentions [] l.statements
