use Rattle.std.proofs.Common.{◌≡◌, drop}
use Rattle.binding_causes.specs.Resolution.{first_true}
use Rattle.binding_causes.proofs.judging.first_true.Given as goal

abbrev pub invariant-loop-cause : goal.invariant-loop-cause
invariant-loop-cause l = first_true (drop l.cause-index l.causes) ≡ first_true l.causes
