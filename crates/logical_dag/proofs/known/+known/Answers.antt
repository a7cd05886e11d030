-- Of a node with one child the facts go up from it; with two, those on the right are worked out beside those on the left.
use Rattle.logical_trees.specs.Tree.{tree_of}
use Rattle.logical_dag.specs.Laws.{lent_columns}
use Rattle.logical_dag.proofs.KnownTables.{facts_own, joined_apart}
use Rattle.logical_dag.proofs.known.+known.Goals as goal

pub known_of-facts_above-requires-clause-own : goal.known_of-facts_above-requires-clause-own
known_of-facts_above-requires-clause-own t c = facts_own c.args.shared.now (tree_of c.below-item.result) c.known_of.new.facts c.known_of.ensures.value

pub known_beside-facts_over-requires-clause-own : goal.known_beside-facts_over-requires-clause-own
known_beside-facts_over-requires-clause-own t c = facts_own c.args.shared.now c.requires.0 c.args.facts.now c.requires.2

pub known_beside-facts_over-requires-clause-apart : goal.known_beside-facts_over-requires-clause-apart
known_beside-facts_over-requires-clause-apart t c =
    joined_apart c.args.shared.now (lent_columns c.args.shared.now) c.args.op.now c.requires.0 (tree_of c.args.right.now) c.args.facts.now c.known_of.new.facts c.requires.1 c.requires.2 c.known_of.ensures.value

pub known_beside-returns-clause-value : goal.known_beside-returns-clause-value
known_beside-returns-clause-value t c = λ left formed facts.
    c.facts_over.ensures c.args.shared.now left (tree_of c.args.right.now) formed facts c.known_of.ensures.value
