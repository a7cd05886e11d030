-- From nothing known, the leaves are added and then the pairs.
use Rattle.logical_trees.specs.Tree.{tree_of}
use Rattle.logical_dag.specs.Laws.{lent_columns}
use Rattle.logical_trees.specs.Blocks.{block_leaves, block_pairs, chosen}
use Rattle.logical_dag.proofs.Added.{blank_over, added_over, facts_of_all}
use Rattle.logical_trees.specs.BlockLemmas.{chosen_formed}
use Rattle.logical_dag.proofs.block_facts.block_facts.Goals as goal

pub with_leaves-gathered-requires-clause-over : goal.with_leaves-gathered-requires-clause-over
with_leaves-gathered-requires-clause-over c = blank_over c.nothing_known.result c.nothing_known.ensures

pub with_block_pairs-requires-clause-set : goal.with_block_pairs-requires-clause-set
with_block_pairs-requires-clause-set c =
    let shared = c.args.shared.now in
    let tree = tree_of c.args.tree.now in
    let over = added_over shared (lent_columns shared) c.nothing_known.result c.with_leaves-gathered.result.facts (chosen c.args.mask (block_leaves tree)) (chosen_formed (lent_columns shared) c.args.mask tree c.requires.formed)
    (blank_over c.nothing_known.result c.nothing_known.ensures) c.with_leaves-gathered.ensures.facts in
    over.set

pub returns : goal.returns
returns c =
    let tree = tree_of c.args.tree.now in
    facts_of_all c.args.shared.now (chosen c.args.mask (block_leaves tree)) (block_pairs tree) c.nothing_known.result c.with_leaves-gathered.result.facts c.with_block_pairs.result
    c.nothing_known.ensures c.with_leaves-gathered.ensures.facts c.with_block_pairs.ensures.rest c.with_block_pairs.ensures.classes
