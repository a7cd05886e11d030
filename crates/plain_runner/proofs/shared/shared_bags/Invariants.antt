-- Each bag so far stands for its tree, by those that are there.
use Rattle.std.proofs.Common.{map, take}
use Rattle.user_ops.specs.contracts.op_set.OpSetTells.TheImpl as impl
use Rattle.logical_trees.specs.Tree.{tree_of}
use Rattle.logical_dag.specs.DagMeaning.{AllStand, drawn}
use Rattle.plain_runner.specs.Runs.{bags_of}
use Rattle.plain_runner.proofs.shared.shared_bags.Given as goal

abbrev pub invariant-loop-tree : goal.invariant-loop-tree
invariant-loop-tree g l =
    AllStand ((impl.ghosts g.dyn-1 g.dyn-2 g.dyn-3 g.dyn-4).tells l.ops) (drawn (bags_of l.scans) (bags_of l.bags.items)) (map tree_of (take l.tree-index l.dag.shared)) (bags_of l.bags.items)
