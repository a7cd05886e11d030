-- The facts of the chosen leaves are those of each join of them.
use Rattle.std.proofs.Common.{subst}
use Rattle.logical_trees.specs.Tree.{tree_of}
use Rattle.logical_dag.specs.Laws.{lent_columns}
use Rattle.logical_dag.specs.Places.{IsPart}
use Rattle.logical_dag.proofs.PartFacts.{leaves_facts}
use Rattle.logical_dag.proofs.known_at.part_facts.Goals as goal

pub returns-in-Leaves : goal.returns-in-Leaves
returns-in-Leaves c t part =
    leaves_facts (lent_columns c.args.shared.now) c.args.shared.now c.in-Leaves.mask (tree_of c.args.node.now) t c.block_facts.result c.requires.formed
    (subst (λ p. IsPart p (tree_of c.args.node.now) t) c.in-Leaves.is part) c.block_facts.ensures
