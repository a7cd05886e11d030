-- What a conjunct still has to sink through has fewer nodes.
use Rattle.std.proofs.Common.{length}
use Rattle.logical_trees.specs.Tree.{nodes, tree_of}
use Rattle.normal_form.proofs.sinking.+sink.Given as goal

abbrev pub decreases-sink : goal.decreases-sink
decreases-sink l = length (nodes (tree_of l.tree))
