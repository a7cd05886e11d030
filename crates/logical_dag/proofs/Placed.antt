-- Expressions at the places of a script are formed.
use Rattle.std.proofs.Common.{◌≡◌, ℕ, zero, suc, ◌<◌, ◌≤◌, List, [], ◌∷◌, ◌++◌, map, take, length, refl, sym, ap, subst, arith, ◌⊎◌, inl, inr, Option, Some, None, slice_get}
use Rattle.std.specs.Prelude.{IsSomeAnd, IfSome}
use Rattle.std.proofs.lemmas.List.Elements.{All-contains}
use Rattle.std.proofs.lemmas.Option.{slice_get_within}
use Rattle.structural_props.specs.Actions.{In}
use Rattle.structural_props.specs.KeptLemmas.{in_append}
use Rattle.logical_dag.specs.declared.dag.Dag.{Dag}
use Rattle.logical_dag.specs.declared.place.Place.{Place}
use Rattle.logical_dag.specs.declared.place.PlacePart.{PlacePart}
use Rattle.logical_dag.specs.declared.place.PlacePart.TheVariants.{Whole, Leaves, Lower}
use Rattle.logical_trees.specs.declared.logic_op.LogicOp.TheVariants.{Ref, Join, Group, Top}
use Rattle.logical_trees.specs.Tree.{Expression, leaf, one, two, nodes, columns_of}
use Rattle.logical_trees.specs.Formed.{IsFormed}
use Rattle.logical_dag.specs.Scripts.{shared_trees, output_trees, all_trees, IsWritten, IsBindable}
use Rattle.logical_dag.specs.Places.{IsPart, IsAt}
use Rattle.list_lemmas.specs.Members.{list_in}
use Rattle.logical_trees.specs.BlockLemmas.{chosen_join_formed}

-- ---- what stands at places of lists

-- what is said of the value that is there
pub some_and : {X : Type 0} (o : Option X) (P : X → Type 0) → IsSomeAnd o P → (x : X) × (o ≡ Some x) × P x
some_and None P h = absurd h
some_and (Some x) P h = (x, refl, h)

pub and_some : {X : Type 0} (o : Option X) (P : X → Type 0) (x : X) → o ≡ Some x → P x → IsSomeAnd o P
and_some o P x e h = subst (λ q. IsSomeAnd q P) (sym e) h

pub if_some : {X : Type 0} (o : Option X) (P : X → Type 0) (x : X) → o ≡ Some x → IfSome o P → P x
if_some o P x e h = subst (λ q. IfSome q P) e h

-- what stands at a place is an element
pub got_in : {X : Type 0} (xs : List X) (i : ℕ) (x : X) → slice_get xs i ≡ Some x → In x xs
got_in [] i x h = absurd (cc)
got_in (y ∷ ys) zero x h = let e : x ≡ y = cc in inl e
got_in (y ∷ ys) (suc i) x h = inr (got_in ys i x h)

-- an element stands at a place
pub in_got : {X : Type 0} (xs : List X) (x : X) → In x xs → (i : ℕ) × (slice_get xs i ≡ Some x)
in_got [] x h = absurd h
in_got (y ∷ ys) x (inl e) = (zero, ap Some (sym e))
in_got (y ∷ ys) x (inr h) = let m = in_got ys x h in (suc m.0, m.1)

-- what stands at a place of the first elements
pub got_first : {X : Type 0} (n : ℕ) (xs : List X) (i : ℕ) (x : X) → slice_get (take n xs) i ≡ Some x → (i < n) × (slice_get xs i ≡ Some x)
got_first zero xs i x h = absurd (cc)
got_first (suc n) [] i x h = absurd (cc)
got_first (suc n) (y ∷ ys) zero x h = (omega arith, h)
got_first (suc n) (y ∷ ys) (suc i) x h = let m = got_first n ys i x h in let l : i < n = m.0 in (omega arith, m.1)

-- ---- formed expressions

-- over more results it is still formed
pub formed_more : (n : ℕ) (results : List (List ℕ)) (t : Expression) → IsFormed (take n results) t → IsFormed results t
formed_more n results (leaf (Ref i cols)) h =
    let m = some_and (slice_get (take n results) i) _ h.1 in
    (h.0, and_some (slice_get results i) _ m.0 (got_first n results i m.0 m.1).1 m.2)
formed_more n results (leaf op) h = h
formed_more n results (one op t) h = (formed_more n results t h.0, h.1)
formed_more n results (two op t u) h = (formed_more n results t h.0, formed_more n results u h.1, h.2)

module _ (results : List (List ℕ)) where
  -- each node is formed
  pub nodes_formed : (t : Expression) → IsFormed results t → (u : Expression) → In u (nodes t) → IsFormed results u
  nodes_formed (leaf op) h u (inl e) = subst (λ v. IsFormed results v) (sym e) h
  nodes_formed (leaf op) h u (inr m) = absurd m
  nodes_formed (one op t) h u m = go (nodes_formed t h.0 u) (in_append u (nodes t) (one op t ∷ []) m)
    where
      go : (In u (nodes t) → IsFormed results u) → In u (nodes t) ⊎ In u (one op t ∷ []) → IsFormed results u
      go below (inl k) = below k
      go below (inr (inl e)) = subst (λ v. IsFormed results v) (sym e) h
      go below (inr (inr k)) = absurd k
  nodes_formed (two op t u) h v m = go (nodes_formed t h.0 v) (nodes_formed u h.1 v) (in_append v (nodes t) (nodes u ++ two op t u ∷ []) m)
    where
      beside : (In v (nodes u) → IsFormed results v) → In v (nodes u) ⊎ In v (two op t u ∷ []) → IsFormed results v
      beside right (inl k) = right k
      beside right (inr (inl e)) = subst (λ w. IsFormed results w) (sym e) h
      beside right (inr (inr k)) = absurd k

      go : (In v (nodes t) → IsFormed results v) → (In v (nodes u) → IsFormed results v) → In v (nodes t) ⊎ In v (nodes u ++ two op t u ∷ []) → IsFormed results v
      go left right (inl k) = left k
      go left right (inr k) = beside right (in_append v (nodes u) (two op t u ∷ []) k)

  -- and so is each part of one
  pub part_formed : (part : PlacePart) (node t : Expression) → IsFormed results node → IsPart part node t → IsFormed results t
  part_formed Whole node t h e = subst (λ u. IsFormed results u) e h
  part_formed (Leaves mask) (two (Join on) u v) t h j = chosen_join_formed results mask (two (Join on) u v) t h j
  part_formed (Leaves mask) (two op u v) t h j = absurd j
  part_formed (Leaves mask) (one op u) t h j = absurd j
  part_formed (Leaves mask) (leaf op) t h j = absurd j
  part_formed Lower (one (Group args) u) t h e = subst (λ w. IsFormed results w) e h
  part_formed Lower (one (Top args) u) t h e = subst (λ w. IsFormed results w) e h
  part_formed Lower (one op u) t h e = absurd e
  part_formed Lower (two op u v) t h e = absurd e
  part_formed Lower (leaf op) t h e = absurd e

-- the columns of the shared results
abbrev pub shared_columns : Dag → List (List ℕ)
shared_columns dag = map columns_of (shared_trees dag)

-- each tree of a script is formed
pub tree_formed : (dag : Dag) → IsBindable dag → (i : ℕ) (t : Expression) → slice_get (all_trees dag) i ≡ Some t → IsFormed (shared_columns dag) t
tree_formed dag bound i t h = go (in_append t (shared_trees dag) (output_trees dag) (got_in (all_trees dag) i t h))
  where
    go : In t (shared_trees dag) ⊎ In t (output_trees dag) → IsFormed (shared_columns dag) t
    go (inl m) =
        let k = in_got (shared_trees dag) t m in
        let written : IsWritten (take k.0 (shared_columns dag)) t = if_some (slice_get (shared_trees dag) k.0) (IsWritten (take k.0 (shared_columns dag))) t k.1 (bound.shared k.0) in
        formed_more k.0 (shared_columns dag) t written.formed
    go (inr m) =
        let written : IsWritten (shared_columns dag) t = All-contains (IsWritten (shared_columns dag)) (output_trees dag) t bound.outputs (list_in (output_trees dag) t m) in
        written.formed

-- and each expression at a place
pub place_formed : (dag : Dag) → IsBindable dag → (place : Place) (t : Expression) → IsAt dag place t → IsFormed (shared_columns dag) t
place_formed dag bound place t h =
    let tree = some_and (slice_get (all_trees dag) place.tree) _ h in
    let node = some_and (slice_get (nodes tree.0) place.node) _ tree.2 in
    let formed = nodes_formed (shared_columns dag) tree.0 (tree_formed dag bound place.tree tree.0 tree.1) node.0 (got_in (nodes tree.0) place.node node.0 node.1) in
    part_formed (shared_columns dag) place.part node.0 t formed node.2

-- ---- the node of a place

module _ (dag : Dag) (place : Place) (tree : Expression) (here : slice_get (all_trees dag) place.tree ≡ Some tree) where
  -- an expression at the place is a part of a node of the tree
  pub at_tree : (t : Expression) → IsAt dag place t → IsSomeAnd (slice_get (nodes tree) place.node) (λ node. IsPart place.part node t)
  at_tree t h = subst (λ o. IsSomeAnd o (λ u. IsSomeAnd (slice_get (nodes u) place.node) (λ node. IsPart place.part node t))) here h

  module _ (node : Expression) (there : slice_get (nodes tree) place.node ≡ Some node) where
    -- the expression is a part of this node
    pub at_node : (t : Expression) → IsAt dag place t → IsPart place.part node t
    at_node t h = subst (λ o. IsSomeAnd o (λ u. IsPart place.part u t)) there (at_tree t h)

    -- the node is formed
    pub node_formed : IsBindable dag → IsFormed (shared_columns dag) node
    node_formed bound = nodes_formed (shared_columns dag) tree (tree_formed dag bound place.tree tree here) node (got_in (nodes tree) place.node node there)
