-- A node by the children that were taken out of it.
use Rattle.std.proofs.Common.{◌≡◌, ◌<◌, List, [], ◌∷◌, map, length, refl, sym, ap, ap₂, ◌∙◌, arith, Some, slice_get}
use Rattle.std.specs.Prelude.{remove}
use Rattle.logical_trees.specs.declared.logic_op.LogicOp.{LogicOp}
use Rattle.logical_trees.specs.declared.logical.Logical.{Logical, out-Logical}
use Rattle.logical_trees.specs.Tree.{leaf, one, two, node, tree_of}
use Rattle.logical_trees.specs.ShapeLemmas.{opened}

-- a list that isn't empty has a first element
pub some_there : {X : Type 0} (xs : List X) → (xs ≡ [] → ⊥) → 0 < length xs
some_there [] h = absurd (h refl)
some_there (x ∷ xs) h = omega arith

-- the first one, and those that are left where it is taken out
pub first_of : {X : Type 0} (xs ys : List X) (x : X) → slice_get xs 0 ≡ Some x → ys ≡ remove xs 0 → xs ≡ x ∷ ys
first_of [] ys x at rest = absurd (cc)
first_of (y ∷ xs) ys x at rest = let same : y ≡ x = cc in ap₂ (λ z zs. z ∷ zs) same (sym rest)

-- a node over these children
over_kids : (t : Logical) (op : LogicOp) (kids others : List Logical) → op ≡ (out-Logical t).op → kids ≡ (out-Logical t).kids → kids ≡ others
    → node op (map tree_of others) ≡ tree_of t
over_kids t op kids others same all is = ap₂ (λ (o : LogicOp) (k : List Logical). node o (map tree_of k)) same (sym is ∙ all) ∙ sym (opened t)

pub no_kids : (t : Logical) (op : LogicOp) (kids : List Logical) → op ≡ (out-Logical t).op → kids ≡ (out-Logical t).kids → kids ≡ [] → leaf op ≡ tree_of t
no_kids t op kids same all none = over_kids t op kids [] same all none

pub one_kid : (t : Logical) (op : LogicOp) (kids rest : List Logical) (u : Logical) → op ≡ (out-Logical t).op → kids ≡ (out-Logical t).kids
    → slice_get kids 0 ≡ Some u → rest ≡ remove kids 0 → rest ≡ [] → one op (tree_of u) ≡ tree_of t
one_kid t op kids rest u same all at left none = over_kids t op kids (u ∷ []) same all (first_of kids rest u at left ∙ ap (λ (k : List Logical). u ∷ k) none)

pub two_kids : (t : Logical) (op : LogicOp) (kids rest more : List Logical) (u v : Logical) → op ≡ (out-Logical t).op → kids ≡ (out-Logical t).kids
    → slice_get kids 0 ≡ Some u → rest ≡ remove kids 0 → slice_get rest 0 ≡ Some v → more ≡ remove rest 0 → two op (tree_of u) (tree_of v) ≡ tree_of t
two_kids t op kids rest more u v same all at left beyond after =
    over_kids t op kids (u ∷ v ∷ more) same all (first_of kids rest u at left ∙ ap (λ (k : List Logical). u ∷ k) (first_of rest more v beyond after))
