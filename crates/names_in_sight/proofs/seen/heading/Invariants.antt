use Rattle.std.proofs.Common.{◌≡◌, take}
use Rattle.names_in_sight.specs.Views.{heading}
use Rattle.names_in_sight.proofs.seen.heading.Given as goal

abbrev pub invariant-loop-output : goal.invariant-loop-output
invariant-loop-output l = l.columns ≡ heading (take l.output-index l.outputs)
