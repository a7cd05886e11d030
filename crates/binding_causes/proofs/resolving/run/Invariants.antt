use Rattle.std.proofs.Common.{◌≡◌, [], take, drop}
use Rattle.binding_causes.specs.Progress.{place_of}
use Rattle.binding_causes.specs.Resolution.{resolved_from}
use Rattle.binding_causes.proofs.resolving.run.Given as goal

-- what is done, and the statements that are left
abbrev pub invariant-loop-at : goal.invariant-loop-at
invariant-loop-at g l =
    resolved_from (g.O.Tells.tells l.ops) (place_of l.all (take l.at l.statements) l.progress) l.progress.done (drop l.at l.statements)
    ≡ resolved_from (g.O.Tells.tells l.ops) (place_of l.all [] l.initial.progress) l.initial.progress.done l.statements
