-- So far the places have the facts of the trees before the index.
use Rattle.std.proofs.Common.{◌≡◌, map, length}
use Rattle.logical_trees.specs.Tree.{tree_of}
use Rattle.logical_dag.proofs.FirstFacts.{AreFirstFacts}
use Rattle.logical_dag.proofs.known_at.shared_facts.Given as goal

abbrev pub invariant-loop-tree : goal.invariant-loop-tree
invariant-loop-tree l = record {
  count : l.count ≡ l.tree-index;
  room : length l.places ≡ 4;
  facts : AreFirstFacts (map tree_of l.dag.shared) l.count l.places;
}
