-- Each bound has its test.
use Rattle.std.proofs.Common.{ap₂, ◌&&◌}
use Rattle.logical_dag.proofs.Bounded.{bounded_where}
use Rattle.logical_dag.proofs.bounds.are_bounded.Goals as goal

pub returns : goal.returns
returns c =
    bounded_where c.args.scans c.args.shared.now c.args.outputs.now c.are_few-few.result _ c.are_few_nodes.result c.are_few-few.ensures
    (ap₂ ◌&&◌ c.are_narrow.ensures c.are_outputs_narrow.ensures) c.are_few_nodes.ensures
