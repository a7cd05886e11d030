-- The top of a join block, by what a match on a node found.
use Rattle.std.proofs.Common.{◌≡◌, ◌<◌, ◌≤◌, List, [], ◌∷◌, map, length, get_or, refl, sym, ap, ◌∙◌, arith}
use Rattle.std.proofs.lemmas.List.{length-map}
use Rattle.logical_trees.specs.declared.logic_op.LogicOp.{LogicOp}
use Rattle.logical_trees.specs.declared.logic_op.LogicOp.TheVariants.{Join}
use Rattle.logical_trees.specs.declared.logical.Logical.{Logical, out-Logical}
use Rattle.logical_trees.specs.Tree.{leaf, one, two, node, Expression, tree_of}
use Rattle.logical_trees.specs.Blocks.{block_leaves, block_pairs}
use Rattle.logical_trees.specs.ShapeLemmas.{opened, tree_two}

-- the expression is no Join
abbrev pub IsNoJoin : Expression → Type 0
IsNoJoin e = (on : _) (t u : Expression) → e ≡ two (Join on) t u → ⊥

-- such an expression is the only leaf of its block, which has no pairs
pub no_join_leaves : (e : Expression) → IsNoJoin e → block_leaves e ≡ e ∷ []
no_join_leaves (two (Join on) t u) h = absurd (h on t u refl)
no_join_leaves (two op t u) h = refl
no_join_leaves (one op t) h = refl
no_join_leaves (leaf op) h = refl

pub no_join_pairs : (e : Expression) → IsNoJoin e → block_pairs e ≡ []
no_join_pairs (two (Join on) t u) h = absurd (h on t u refl)
no_join_pairs (two op t u) h = refl
no_join_pairs (one op t) h = refl
no_join_pairs (leaf op) h = refl

-- a node with two children has at least two
node_two : (op p : LogicOp) (kids : List Expression) (t u : Expression) → node op kids ≡ two p t u → (op ≡ p) × (2 ≤ length kids)
node_two op p [] t u e = absurd (cc)
node_two op p (v ∷ []) t u e = absurd (cc)
node_two op p (v ∷ w ∷ kids) t u e = (cc, omega arith)

-- a node of another kind is no Join
pub other_kind : (t : Logical) → ((on : _) → (out-Logical t).op ≡ Join on → ⊥) → IsNoJoin (tree_of t)
other_kind t h on l r e = h on (node_two (out-Logical t).op (Join on) (map tree_of (out-Logical t).kids) l r (sym (opened t) ∙ e)).0

-- nor is one with fewer than two children
pub few_kids : (t : Logical) (kids : List Logical) → kids ≡ (out-Logical t).kids → length kids < 2 → IsNoJoin (tree_of t)
few_kids t kids same l on u v e =
    let m = (node_two (out-Logical t).op (Join on) (map tree_of (out-Logical t).kids) u v (sym (opened t) ∙ e)).1 in
    let n = length-map (out-Logical t).kids tree_of in
    let k = ap length same in
    omega arith

-- a node of the kind with two children is a Join
pub tree_join : (t : Logical) (kids : List Logical) (u v : Logical) (on : _) → kids ≡ (out-Logical t).kids → 2 ≤ length kids → u ≡ get_or kids 0 u → v ≡ get_or kids 1 v
    → (out-Logical t).op ≡ Join on → tree_of t ≡ two (Join on) (tree_of u) (tree_of v)
tree_join t kids u v on same l is also kind = tree_two t kids u v same l is also ∙ ap (λ op. two op (tree_of u) (tree_of v)) kind
