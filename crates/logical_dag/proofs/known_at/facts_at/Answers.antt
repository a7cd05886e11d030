-- The tree of the place is formed, and each expression at the place is a part of a node of it.
use Rattle.std.proofs.Common.{take, sym}
use Rattle.logical_trees.specs.Tree.{tree_of}
use Rattle.logical_dag.specs.Places.{AreFactsAt}
use Rattle.logical_dag.proofs.Placed.{at_tree}
use Rattle.logical_dag.proofs.SharedFacts.{hold_at}
use Rattle.logical_dag.proofs.FirstFacts.{lent_formed}
use Rattle.logical_dag.proofs.known_at.facts_at.Goals as goal

pub facts_in-requires-clause-formed : goal.facts_in-requires-clause-formed
facts_in-requires-clause-formed c =
    lent_formed c.args.dag.now c.requires (take c.shared_facts-shared.result.count c.shared_facts-shared.result.places) c.shared_facts-shared.ensures.facts c.args.place.now.tree (tree_of c.in-Some.tree.now) (sym c.in-Some.ensures)

-- the facts of the part, by those of the shared results
found : (c : goal.After-facts_in) → AreFactsAt c.args.dag.now c.args.place.now c.facts_in.result
found c =
    let shared = take c.shared_facts-shared.result.count c.shared_facts-shared.result.places in
    (shared, c.shared_facts-shared.ensures.facts, λ t at. c.facts_in.ensures t (at_tree c.args.dag.now c.args.place.now (tree_of c.in-Some.tree.now) (sym c.in-Some.ensures) t at))

pub returns-in-Some-clause-value : goal.returns-in-Some-clause-value
returns-in-Some-clause-value c = found c

pub returns-in-Some-clause-hold : goal.returns-in-Some-clause-hold
returns-in-Some-clause-hold c = hold_at c.args.dag.now c.args.place.now c.facts_in.result c.requires (found c)
