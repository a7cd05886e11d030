-- The outputs that are done are those of the first ones: with any that are of those left they are of all.
use Rattle.std.proofs.Common.{◌++◌, List, length}
use Rattle.logical_dag.specs.declared.dag.Output.{Output}
use Rattle.normal_form.specs.Kept.{AreOutputsOf}
use Rattle.normal_form.proofs.dag.normal_outputs.Given as goal

abbrev pub invariant-loop-alloc : goal.invariant-loop-alloc
invariant-loop-alloc l = (more : List Output) → AreOutputsOf l.outputs more → AreOutputsOf l.initial.outputs (l.done ++ more)

abbrev pub decreases-loop-alloc : goal.decreases-loop-alloc
decreases-loop-alloc l = length l.outputs
