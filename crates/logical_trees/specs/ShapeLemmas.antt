-- An expression by the children that a slice pattern found.
use Rattle.std.proofs.Common.{◌≡◌, ◌<◌, ◌≤◌, List, [], ◌∷◌, map, get_or, length, sym, ap, ap₂, ◌∙◌, arith}
use Rattle.logical_trees.specs.declared.logical.Logical.{Logical, out-Logical, fold_out-Logical}
use Rattle.logical_trees.specs.Tree.{Tree, leaf, one, two, node, Expression, tree_of}

one_kid : {A B : Type 0} (s : A) (f : B → Tree A) (xs : List B) (q : B) → 1 ≤ length xs → length xs < 2 → q ≡ get_or xs 0 q → node s (map f xs) ≡ one s (f q)
one_kid s f [] q h k is = absurd (omega arith)
one_kid s f (x ∷ []) q h k is = ap (λ z. one s (f z)) (sym is)
one_kid s f (x ∷ y ∷ xs) q h k is = absurd (omega arith)

two_kids : {A B : Type 0} (s : A) (f : B → Tree A) (xs : List B) (q r : B) → 2 ≤ length xs → q ≡ get_or xs 0 q → r ≡ get_or xs 1 r → node s (map f xs) ≡ two s (f q) (f r)
two_kids s f [] q r h is also = absurd (omega arith)
two_kids s f (x ∷ []) q r h is also = absurd (omega arith)
two_kids s f (x ∷ y ∷ xs) q r h is also = ap₂ (λ z w. two s (f z) (f w)) (sym is) (sym also)

-- a tree is a node over its children
pub opened : (t : Logical) → tree_of t ≡ node (out-Logical t).op (map tree_of (out-Logical t).kids)
opened t = fold_out-Logical Expression (λ x. node x.op x.kids) t

pub tree_one : (t : Logical) (kids : List Logical) (u : Logical) → kids ≡ (out-Logical t).kids → 1 ≤ length kids → length kids < 2 → u ≡ get_or kids 0 u
    → tree_of t ≡ one (out-Logical t).op (tree_of u)
tree_one t kids u e h k is = opened t ∙ ap (λ l. node (out-Logical t).op (map tree_of l)) (sym e) ∙ one_kid _ tree_of kids u h k is

pub tree_two : (t : Logical) (kids : List Logical) (u v : Logical) → kids ≡ (out-Logical t).kids → 2 ≤ length kids → u ≡ get_or kids 0 u → v ≡ get_or kids 1 v
    → tree_of t ≡ two (out-Logical t).op (tree_of u) (tree_of v)
tree_two t kids u v e h is also = opened t ∙ ap (λ l. node (out-Logical t).op (map tree_of l)) (sym e) ∙ two_kids _ tree_of kids u v h is also

pub no_child : (t : Logical) (kids : List Logical) → kids ≡ (out-Logical t).kids → length kids < 1 → tree_of t ≡ leaf (out-Logical t).op
no_child t [] e l = opened t ∙ ap (λ k. node (out-Logical t).op (map tree_of k)) (sym e)
no_child t (u ∷ kids) e l = absurd (omega (arith, l))
