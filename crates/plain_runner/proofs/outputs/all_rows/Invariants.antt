-- The rows so far are those of the first outputs.
use Rattle.std.proofs.Common.{map, take}
use Rattle.user_ops.specs.contracts.op_set.OpSetTells.TheImpl as impl
use Rattle.logical_trees.specs.Tree.{tree_of}
use Rattle.logical_dag.specs.DagMeaning.{Writes}
use Rattle.plain_meaning.specs.Plain.{sources}
use Rattle.plain_runner.specs.Runs.{bags_of}
use Rattle.plain_runner.proofs.outputs.all_rows.Given as goal

abbrev pub invariant-loop-output : goal.invariant-loop-output
invariant-loop-output g l =
    Writes ((impl.ghosts g.dyn-1 g.dyn-2 g.dyn-3 g.dyn-4).tells l.ops) (sources l.scans l.shared) (map (λ o. o.order) (take l.output-index l.dag.outputs)) (map (λ o. tree_of o.tree) (take l.output-index l.dag.outputs)) (bags_of l.all.items)
