use Rattle.std.proofs.Common.{◌≡◌, ℕ, ◌+◌, List, [], ◌∷◌, ◌++◌, length, sym, ap, ◌∙◌, arith, append_assoc}
use Rattle.std.specs.Prelude.{Result, Ok, Err, MatchResult}
use Rattle.std.specs.Borrow.{Bor}
use Rattle.logical_trees.specs.declared.logical.Logical.{Logical}
use Rattle.logical_trees.specs.Tree.{Expression, nodes, tree_of}
use Rattle.logical_dag.specs.Found.{IsNodeAt}
use Rattle.logical_trees.specs.ShapeLemmas.{tree_one, tree_two}
use Rattle.list_lemmas.specs.Reading.{get_front, get_past, get_last, past_last, past_both}
use Rattle.logical_dag.proofs.finding.+node_at.Goals as goal

-- past the nodes of the children stands the node itself
own : (tree : Logical) (xs : List Expression) (n past : ℕ) (r : Result (Bor Logical) ℕ) → n ≡ length xs + past
    → MatchResult r (λ node. (past ≡ 0) × (tree_of node.now ≡ tree_of tree)) (λ more. past ≡ 1 + more)
    → IsNodeAt (xs ++ tree_of tree ∷ []) n r
own tree xs n past (Ok node) e h = get_last xs (tree_of tree) (tree_of node.now) n past e h.0 h.1
own tree xs n past (Err more) e h = past_last xs (tree_of tree) n past more e h

pub returns-in-Ok : goal.returns-in-Ok
returns-in-Ok t c =
    let tree = c.args.tree.now in
    let shape = tree_one tree c.as_slice.result.now c.kid-item.result c.as_slice.ensures (omega arith) (omega arith) c.kid-item.is in
    rw shape (get_front (nodes (tree_of c.kid-item.result)) _ c.args.number _ c.in-Ok.ensures)

pub returns-in-Err : goal.returns-in-Err
returns-in-Err t c =
    let tree = c.args.tree.now in
    let kid = c.kid-item.result in
    let shape = tree_one tree c.as_slice.result.now kid c.as_slice.ensures (omega arith) (omega arith) c.kid-item.is in
    let all : nodes (tree_of tree) ≡ nodes (tree_of kid) ++ tree_of tree ∷ [] = ap nodes shape ∙ ap (λ u. nodes (tree_of kid) ++ u ∷ []) (sym shape) in
    rw all (own tree (nodes (tree_of kid)) c.args.number c.in-Err.past c.own_node-in-Err.result c.in-Err.ensures c.own_node-in-Err.ensures)

pub returns-in-Ok-node_at : goal.returns-in-Ok-node_at
returns-in-Ok-node_at t c =
    let shape = tree_two c.args.tree.now c.as_slice.result.now c.left-item.result c.right-item.result c.as_slice.ensures (omega arith) c.left-item.is c.right-item.is in
    rw shape (get_front (nodes (tree_of c.left-item.result)) _ c.args.number _ c.in-Ok-node_at.ensures)

pub returns-in-Ok-node_at-2 : goal.returns-in-Ok-node_at-2
returns-in-Ok-node_at-2 t c =
    let shape = tree_two c.args.tree.now c.as_slice.result.now c.left-item.result c.right-item.result c.as_slice.ensures (omega arith) c.left-item.is c.right-item.is in
    rw shape
    (get_past (nodes (tree_of c.left-item.result)) _ c.args.number c.in-Err-node_at.past _ c.in-Err-node_at.ensures
    (get_front (nodes (tree_of c.right-item.result)) _ c.in-Err-node_at.past _ c.in-Ok-node_at-2.ensures))

pub returns-in-Err-node_at-2 : goal.returns-in-Err-node_at-2
returns-in-Err-node_at-2 t c =
    let tree = c.args.tree.now in
    let left = tree_of c.left-item.result in
    let right = tree_of c.right-item.result in
    let shape = tree_two tree c.as_slice.result.now c.left-item.result c.right-item.result c.as_slice.ensures (omega arith) c.left-item.is c.right-item.is in
    let all : nodes (tree_of tree) ≡ (nodes left ++ nodes right) ++ tree_of tree ∷ [] =
    ap nodes shape ∙ ap (λ u. nodes left ++ (nodes right ++ u ∷ [])) (sym shape) ∙ sym (append_assoc (nodes left) (nodes right) (tree_of tree ∷ [])) in
    rw all
    (own tree (nodes left ++ nodes right) c.args.number c.in-Err-node_at-2.past c.own_node-in-Err-node_at-2.result
    (past_both (nodes left) (nodes right) c.args.number c.in-Err-node_at.past c.in-Err-node_at-2.past c.in-Err-node_at.ensures c.in-Err-node_at-2.ensures)
    c.own_node-in-Err-node_at-2.ensures)
