-- The children have fewer nodes.
use Rattle.std.proofs.Common.{length}
use Rattle.logical_trees.specs.Tree.{nodes, tree_of}
use Rattle.normal_form.proofs.normal.+normal_tree.Given as goal

abbrev pub decreases-normal_tree : goal.decreases-normal_tree
decreases-normal_tree l = length (nodes (tree_of l.tree))
