-- Each tree is formed over the facts found so far, and its facts are put after them.
use Rattle.std.proofs.Common.{◌≡◌, ℕ, ◌<◌, ◌≤◌, List, length, map, get_or, ap, ◌∙◌, subst, arith, slice_get, Some, length-set}
use Rattle.std.proofs.lemmas.List.{length-map}
use Rattle.logical_trees.specs.declared.logical.Logical.{Logical}
use Rattle.logical_trees.specs.Tree.{tree_of}
use Rattle.logical_dag.proofs.FirstFacts.{first_put, next_formed, first_all, tree_got}
use Rattle.logical_dag.proofs.known_at.shared_facts.Goals as goal

-- the tree at the count
next_tree : (shared items : List Logical) (i n : ℕ) (t : Logical) → items ≡ shared → i < length items → n ≡ i → t ≡ get_or items i t → slice_get (map tree_of shared) n ≡ Some (tree_of t)
next_tree shared items i n t e l same is = ap (slice_get (map tree_of shared)) same ∙ subst (λ (trees : List Logical). slice_get (map tree_of trees) i ≡ Some (tree_of t)) e (tree_got items i t l is)

pub facts_of-requires : goal.facts_of-requires
facts_of-requires c =
    let loop = c.loop-tree in
    let dag = c.args.dag.now in
    let few : length (map tree_of dag.shared) ≤ 4 = dag.bounds.few_shared in
    let e = length-map dag.shared tree_of in
    let k = ap length c.as_slice-tree-items.ensures in
    next_formed dag c.requires loop.count loop.places (tree_of c.tree-item.result) (omega arith)
    (next_tree dag.shared c.as_slice-tree-items.result.now loop.tree-index loop.count c.tree-item.result c.as_slice-tree-items.ensures c.loop-tree-test.true loop.invariant.count c.tree-item.is)
    loop.invariant.facts

pub loop-tree-preserved : goal.loop-tree-preserved
loop-tree-preserved c =
    let loop = c.loop-tree in
    let dag = c.args.dag.now in
    let few : length (map tree_of dag.shared) ≤ 4 = dag.bounds.few_shared in
    let e = length-map dag.shared tree_of in
    let k = ap length c.as_slice-tree-items.ensures in
    let m = length-set loop.places loop.count c.facts_of.result in
    record {
      count = omega arith;
      room = omega arith;
      facts = first_put (map tree_of dag.shared) loop.count loop.places (tree_of c.tree-item.result) c.facts_of.result (omega arith)
          (next_tree dag.shared c.as_slice-tree-items.result.now loop.tree-index loop.count c.tree-item.result c.as_slice-tree-items.ensures c.loop-tree-test.true loop.invariant.count c.tree-item.is)
          c.facts_of.ensures.value loop.invariant.facts;
    }

pub returns-clause-facts : goal.returns-clause-facts
returns-clause-facts c =
    let loop = c.loop-tree in
    let dag = c.args.dag.now in
    let few : length (map tree_of dag.shared) ≤ 4 = dag.bounds.few_shared in
    let e = length-map dag.shared tree_of in
    let k = ap length c.as_slice-tree-items.ensures in
    first_all dag loop.count loop.places (omega arith) (omega arith) loop.invariant.facts
