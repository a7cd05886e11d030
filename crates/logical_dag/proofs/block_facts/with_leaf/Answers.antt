-- The leaf has no column of the others, so no column has two dependencies.
use Rattle.logical_trees.specs.Tree.{tree_of}
use Rattle.logical_dag.specs.Laws.{lent_columns}
use Rattle.logical_dag.proofs.LeafFacts.{one_added, leaf_apart}
use Rattle.logical_dag.proofs.block_facts.with_leaf.Goals as goal

pub joined-requires-clause-apart : goal.joined-requires-clause-apart
joined-requires-clause-apart c =
    let shared = c.args.shared.now in
    leaf_apart shared (lent_columns shared) (tree_of c.args.tree.now) c.args.into c.facts_by-leaf.result c.requires.formed c.requires.over c.requires.apart c.facts_by-leaf.ensures

pub returns : goal.returns
returns c =
    let shared = c.args.shared.now in
    one_added shared (lent_columns shared) (tree_of c.args.tree.now) c.requires.formed c.args.into c.facts_by-leaf.result c.joined.result c.requires.over.own c.facts_by-leaf.ensures c.joined.ensures
