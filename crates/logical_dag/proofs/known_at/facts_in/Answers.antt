-- The node of the place is formed, and what is known of the tree's nodes is known of it.
use Rattle.std.proofs.Common.{◌≤◌, length, arith}
use Rattle.std.proofs.lemmas.Option.{slice_get_within}
use Rattle.logical_trees.specs.Tree.{nodes, tree_of}
use Rattle.logical_dag.specs.Laws.{lent_columns}
use Rattle.logical_dag.specs.Places.{IsPart}
use Rattle.logical_dag.proofs.Placed.{some_and, got_in, nodes_formed}
use Rattle.logical_dag.proofs.KnownNodes.{at_some, node_may}
use Rattle.logical_dag.proofs.known_at.facts_in.Goals as goal

pub part_facts-requires-clause-formed : goal.part_facts-requires-clause-formed
part_facts-requires-clause-formed c =
    let tree = tree_of c.args.tree.now in
    nodes_formed (lent_columns c.args.shared.now) tree c.requires.formed (tree_of c.in-Ok.node.now) (got_in (nodes tree) c.args.place.now.node (tree_of c.in-Ok.node.now) c.in-Ok.ensures)

pub part_facts-requires-clause-known : goal.part_facts-requires-clause-known
part_facts-requires-clause-known c = node_may c.args.shared.now c.args.known.now (tree_of c.args.tree.now) (tree_of c.in-Ok.node.now) c.args.place.now.node c.in-Ok.ensures c.requires.known

pub returns-in-Ok : goal.returns-in-Ok
returns-in-Ok c t is = c.part_facts.ensures t (at_some _ (λ u. IsPart c.args.place.now.part u t) (tree_of c.in-Ok.node.now) c.in-Ok.ensures is)

pub returns-in-Err : goal.returns-in-Err
returns-in-Err c t is =
    let all = nodes (tree_of c.args.tree.now) in
    let n = c.args.place.now.node in
    let past : length all ≤ n = omega (arith, c.in-Err.ensures) in
    let m = some_and _ _ is in
    let k = slice_get_within all n m.0 m.1 in
    absurd (omega (arith, past, k))
