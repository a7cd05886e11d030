-- So far the lists have the facts of the trees that were looked at, the shared ones first.
use Rattle.std.proofs.Common.{◌+◌, map, take, length}
use Rattle.logical_dag.specs.Scripts.{all_trees}
use Rattle.logical_dag.proofs.KnownNodes.{ArePutTrees}
use Rattle.logical_dag.proofs.dag_facts.DagFacts.new.Given as goal

abbrev pub invariant-loop-tree : goal.invariant-loop-tree
invariant-loop-tree l = ArePutTrees (take l.shared.count l.shared.places) (all_trees l.dag) l.tree-index (map (λ v. v.items) l.trees.items)

abbrev pub invariant-loop-output : goal.invariant-loop-output
invariant-loop-output l = ArePutTrees (take l.shared.count l.shared.places) (all_trees l.dag) (length l.dag.shared + l.output-index) (map (λ v. v.items) l.trees.items)
