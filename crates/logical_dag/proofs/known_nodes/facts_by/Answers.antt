-- What stands at the number are the facts of the expression.
use Rattle.std.proofs.Common.{◌≡◌, ◌<◌, length, Some, slice_get, rules}
use Rattle.logical_trees.specs.Tree.{tree_of}
use Rattle.list_lemmas.specs.Reading.{read_some}
use Rattle.logical_dag.proofs.KnownNodes.{found_facts}
use Rattle.logical_dag.proofs.known_nodes.facts_by.Goals as goal

pub returns-in-Some : goal.returns-in-Some
returns-in-Some c =
    let within : c.args.number < length c.args.known.now = search rules in
    let at : slice_get c.args.known.now c.args.number ≡ Some c.in-Some.node.now = read_some c.args.known.now c.args.number c.in-Some.node.now within c.in-Some.ensures.lookup.1 in
    found_facts c.args.shared.now c.args.known.now (tree_of c.args.tree.now) c.args.number c.in-Some.node.now at c.requires.known
