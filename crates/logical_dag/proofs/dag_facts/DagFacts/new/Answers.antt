-- Each tree is formed over the shared results' facts, and the facts of its nodes are put after those of the earlier trees.
use Rattle.std.proofs.Common.{◌≡◌, ℕ, ◌+◌, List, [], ◌∷◌, ◌++◌, map, take, length, sym, ap, ◌∙◌, subst, arith, rules, length-append}
use Rattle.std.proofs.lemmas.List.{length-map, map-append}
use Rattle.std.proofs.lemmas.Option.{slice_get_within}
use Rattle.logical_dag.specs.declared.known_nodes.NodeFacts.{NodeFacts}
use Rattle.logical_trees.specs.Tree.{tree_of}
use Rattle.logical_dag.specs.Scripts.{all_trees, shared_trees, output_trees}
use Rattle.logical_dag.proofs.FirstFacts.{shared_there, output_there, lent_formed}
use Rattle.logical_dag.proofs.KnownNodes.{ArePutTrees, put_tree}
use Rattle.logical_dag.proofs.dag_facts.DagFacts.new.Goals as goal

pub facts_of_nodes-requires : goal.facts_of_nodes-requires
facts_of_nodes-requires c =
    let dag = c.args.dag.now in
    lent_formed dag c.requires (take c.shared_facts-shared.result.count c.shared_facts-shared.result.places) c.shared_facts-shared.ensures.facts c.loop-tree.tree-index (tree_of c.tree-item.result)
    (shared_there dag c.as_slice-tree-items.result.now c.loop-tree.tree-index c.tree-item.result c.as_slice-tree-items.ensures c.loop-tree-test.true c.tree-item.is)

pub loop-tree-preserved : goal.loop-tree-preserved
loop-tree-preserved c =
    let dag = c.args.dag.now in
    let lent = take c.shared_facts-shared.result.count c.shared_facts-shared.result.places in
    let trees = c.loop-tree.trees.items in
    let made = c.in_ok-facts_of_nodes.field-0 in
    let grown : c.push.new.self.items ≡ trees ++ made ∷ [] = search rules in
    subst (λ (known : List (List NodeFacts)). ArePutTrees lent (all_trees dag) (c.loop-tree.tree-index + 1) known) (sym (ap (map (λ v. v.items)) grown ∙ map-append (λ v. v.items) trees (made ∷ [])))
    (put_tree lent (all_trees dag) c.loop-tree.tree-index (map (λ v. v.items) trees) made.items (tree_of c.tree-item.result) c.loop-tree.invariant
    (shared_there dag c.as_slice-tree-items.result.now c.loop-tree.tree-index c.tree-item.result c.as_slice-tree-items.ensures c.loop-tree-test.true c.tree-item.is)
    c.in_ok-facts_of_nodes.ensures)

pub facts_of_nodes-requires-in-loop-output : goal.facts_of_nodes-requires-in-loop-output
facts_of_nodes-requires-in-loop-output c =
    let dag = c.args.dag.now in
    lent_formed dag c.requires (take c.shared_facts-shared.result.count c.shared_facts-shared.result.places) c.shared_facts-shared.ensures.facts (length dag.shared + c.loop-output.output-index) (tree_of c.output-item.result.tree)
    (output_there dag c.as_slice-output-items.result.now c.loop-output.output-index c.output-item.result c.as_slice-output-items.ensures c.loop-output-test.true c.output-item.is)

pub loop-output-init : goal.loop-output-init
loop-output-init c =
    let dag = c.args.dag.now in
    let lent = take c.shared_facts-shared.result.count c.shared_facts-shared.result.places in
    let past = c.loop-tree-test.false in
    let end = c.loop-tree.auto.tree-index-end in
    let all = ap length c.as_slice-tree-items.ensures in
    let n : c.loop-tree.tree-index ≡ length dag.shared + 0 = omega (arith, past, end, all) in
    subst (λ (i : ℕ). ArePutTrees lent (all_trees dag) i (map (λ v. v.items) c.loop-tree.trees.items)) n c.loop-tree.invariant

pub loop-output-preserved : goal.loop-output-preserved
loop-output-preserved c =
    let dag = c.args.dag.now in
    let lent = take c.shared_facts-shared.result.count c.shared_facts-shared.result.places in
    let trees = c.loop-output.trees.items in
    let made = c.in_ok-facts_of_nodes-2.field-0 in
    let grown : c.push-in-loop-output.new.self.items ≡ trees ++ made ∷ [] = search rules in
    let next : (length dag.shared + c.loop-output.output-index) + 1 ≡ length dag.shared + (c.loop-output.output-index + 1) = omega arith in
    subst (λ (known : List (List NodeFacts)). ArePutTrees lent (all_trees dag) (length dag.shared + (c.loop-output.output-index + 1)) known) (sym (ap (map (λ v. v.items)) grown ∙ map-append (λ v. v.items) trees (made ∷ [])))
    (subst (λ (i : ℕ). ArePutTrees lent (all_trees dag) i (map (λ v. v.items) trees ++ made.items ∷ [])) next
    (put_tree lent (all_trees dag) (length dag.shared + c.loop-output.output-index) (map (λ v. v.items) trees) made.items (tree_of c.output-item.result.tree) c.loop-output.invariant
    (output_there dag c.as_slice-output-items.result.now c.loop-output.output-index c.output-item.result c.as_slice-output-items.ensures c.loop-output-test.true c.output-item.is)
    c.in_ok-facts_of_nodes-2.ensures))

pub invariant_of-result : goal.invariant_of-result
invariant_of-result c =
    let dag = c.args.dag.now in
    let put = c.loop-output.invariant in
    let past = c.loop-output-test.false in
    let end = c.loop-output.auto.output-index-end in
    let shared = length-map dag.shared tree_of in
    let outputs = length-map dag.outputs (λ o. tree_of o.tree) in
    let items = ap length c.as_slice-output-items.ensures in
    let both = length-append (shared_trees dag) (output_trees dag) in
    let all : length dag.shared + c.loop-output.output-index ≡ length (all_trees dag) = omega (arith, past, end, shared, outputs, items, both) in (
      c.shared_facts-shared.ensures.room,
      record {
        bound = c.requires;
        shared = c.shared_facts-shared.ensures.facts;
        each_one = put.count ∙ all;
        facts = λ i t e. let l = slice_get_within (all_trees dag) i t e in put.facts i t (omega (arith, l, all)) e;
      },
    )
