-- The tree of the place is formed, its nodes' facts are known, and each expression at the place is a part of a node of it.
use Rattle.std.proofs.Common.{◌≡◌, ◌<◌, List, Some, map, take, length, slice_get, sym, ap, ◌∙◌, subst, inr, arith}
use Rattle.std.specs.Prelude.{option_map}
use Rattle.std.proofs.lemmas.List.{length-map}
use Rattle.std.proofs.lemmas.Option.{slice_get-map, slice_get_within}
use Rattle.logical_dag.specs.declared.known_nodes.NodeFacts.{NodeFacts}
use Rattle.logical_trees.specs.Tree.{tree_of}
use Rattle.logical_dag.specs.Scripts.{all_trees}
use Rattle.logical_dag.specs.Places.{AreFactsAt}
use Rattle.logical_dag.specs.KnownNodes.{HasNodes}
use Rattle.logical_dag.proofs.Placed.{at_tree}
use Rattle.list_lemmas.specs.Reading.{read_some}
use Rattle.logical_dag.proofs.SharedFacts.{hold_at}
use Rattle.logical_dag.proofs.FirstFacts.{lent_formed}
use Rattle.logical_dag.proofs.KnownNodes.{at_some}
use Rattle.logical_dag.proofs.dag_facts.DagFacts.at.Goals as goal

pub facts_in-requires-clause-formed : goal.facts_in-requires-clause-formed
facts_in-requires-clause-formed c =
    let known = c.self.invariant.1 in
    lent_formed c.self.inside.dag.now known.bound (take c.self.inside.shared.count c.self.inside.shared.places) known.shared c.args.place.now.tree (tree_of c.in-Some.tree.now) (sym c.in-Some.ensures)

pub facts_in-requires-clause-known : goal.facts_in-requires-clause-known
facts_in-requires-clause-known c =
    let lent = take c.self.inside.shared.count c.self.inside.shared.places in
    let i = c.args.place.now.tree in
    let tree = tree_of c.in-Some.tree.now in
    let trees = c.self.inside.trees.items in
    let there = slice_get_within (all_trees c.self.inside.dag.now) i tree (sym c.in-Some.ensures) in
    let each = c.self.invariant.1.each_one in
    let same = length-map trees (λ v. v.items) in
    let within : i < length trees = omega (arith, there, each, same) in
    let at : slice_get (map (λ v. v.items) trees) i ≡ Some c.index.result.now.items = slice_get-map (λ v. v.items) trees i ∙ ap (option_map (λ v. v.items)) (read_some trees i c.index.result.now within c.index.ensures) in
    inr (subst (λ (known : List NodeFacts). HasNodes lent known tree 0) (sym c.deref.ensures.value) (at_some _ (λ known. HasNodes lent known tree 0) _ at (c.self.invariant.1.facts i tree (sym c.in-Some.ensures))))

-- the facts of the part, by those of the shared results
found : (c : goal.After-facts_in) → AreFactsAt c.args.self.now c.args.place.now c.facts_in.result
found c =
    let dag = c.self.inside.dag.now in
    rw (← c.self.view_is) (take c.self.inside.shared.count c.self.inside.shared.places, c.self.invariant.1.shared, λ t at. c.facts_in.ensures t (at_tree dag c.args.place.now (tree_of c.in-Some.tree.now) (sym c.in-Some.ensures) t at))

pub returns-in-Some-clause-value : goal.returns-in-Some-clause-value
returns-in-Some-clause-value c = found c

pub returns-in-Some-clause-hold : goal.returns-in-Some-clause-hold
returns-in-Some-clause-hold c = hold_at c.args.self.now c.args.place.now c.facts_in.result (rw (← c.self.view_is) c.self.invariant.1.bound) (found c)
