use Rattle.logical_trees.specs.Tree.{tree_of}
use Rattle.logical_dag.specs.Laws.{lent_columns}
use Rattle.logical_dag.proofs.KnownHold.{facts_hold}
use Rattle.logical_dag.proofs.known.facts_of.Goals as goal

pub returns-clause-hold : goal.returns-clause-hold
returns-clause-hold c =
    facts_hold c.args.shared.now (lent_columns c.args.shared.now) (tree_of c.args.tree.now) c.known_of.new.facts c.requires c.known_of.ensures.set c.known_of.ensures.value
