-- The table of a tree has the facts at its places.
use Rattle.std.proofs.Common.{◌≡◌, ◌+◌, ℕ, true, false, List, [], ◌∷◌, ◌++◌, length, length-append, arith, refl, sym, ap, ◌∙◌, subst, ◌⊎◌, inl, inr, Some, slice_get, IsPermutation}
use Rattle.std.specs.Prelude.{IsSomeAnd}
use Rattle.std.proofs.lemmas.List.Sorted.{IsPermutation-map}
use Rattle.fd_closure.specs.declared.facts.Facts.{Facts}
use Rattle.structural_props.specs.Actions.{In}
use Rattle.structural_props.specs.KeptLemmas.{in_append, in_left}
use Rattle.logical_dag.specs.declared.dag.Dag.{Dag}
use Rattle.logical_dag.specs.declared.place.Place.{Place as DagPlace}
use Rattle.logical_dag.specs.declared.place.PlacePart.{PlacePart}
use Rattle.logical_dag.specs.declared.place.PlacePart.TheVariants.{Whole as AllOf, Leaves as SomeLeaves, Lower}
use Rattle.logical_trees.specs.declared.logic_op.LogicOp.TheVariants.{Join, Group, Top, Partial, LocalTop}
use Rattle.logical_trees.specs.Tree.{Expression, leaf, one, two, nodes}
use Rattle.logical_dag.specs.Facts.{AreFactsOf}
use Rattle.logical_trees.specs.Blocks.{block_leaves, block_pairs, chosen, IsJoinOf}
use Rattle.logical_dag.specs.Places.{IsPart}
use Rattle.logical_dag.specs.Scripts.{all_trees}
use Rattle.list_lemmas.specs.Reading.{get_front, get_past, get_last}
use Rattle.logical_dag.proofs.Placed.{and_some}
use Rattle.parts_plans.specs.Plans.{Env}
use Rattle.rules_places.specs.Space.{is_block}
use Rattle.rules_shapes.specs.Shapes.{size, top_number, numbered_leaves}
use Rattle.rules_shapes.proofs.Knit.{leaves_of, leaves_are}
use Rattle.rules_optimal.specs.Places.{numbered, tops, HasNumbers, IsTableOf}
use Rattle.rules_sizes.proofs.Numbers.{Numbered, number}
use Rattle.rules_tables.specs.Tables.{any_in, block_with, mask_by, leaves_place, pairs_of, op_of, first_step, second_step, Costs, table_of, AreKnown}
use Rattle.rules_tables.proofs.Unique.{top_in, top_block, one_block_by}
use Rattle.rules_tables.proofs.Chosen.{first_is, any_true, any_found, picks, picked, chosen_picks, join_moved}
use Rattle.rules_space.specs.Place.{Leaves}
use Rattle.list_lemmas.specs.Members.{in_moved}

-- ---- nodes by number

pub nodes_size : (t : Expression) → length (nodes t) ≡ size t
nodes_size (leaf op) = refl
nodes_size (one op t) = let a = length-append (nodes t) (one op t ∷ []) in let b = nodes_size t in omega (arith, a, b)
nodes_size (two op t u) =
    let a = length-append (nodes t) (nodes u ++ two op t u ∷ []) in
    let b = length-append (nodes u) (two op t u ∷ []) in
    let c = nodes_size t in
    let d = nodes_size u in
    omega (arith, a, b, c, d)

abbrev IsGot : ℕ → Expression → Numbered → Type 0
IsGot base t v = (k : ℕ) × (number v ≡ base + k) × (slice_get (nodes t) k ≡ Some v.1)

got : (base : ℕ) (t : Expression) (v : Numbered) → In v (numbered base t) → IsGot base t v
got base (leaf op) v (inl e) = (0, (let k = ap number e in omega (arith, k)), ap Some (sym (ap (λ (w : Numbered). w.1) e)))
got base (leaf op) v (inr m) = absurd m
got base (one op t) v (inl e) =
    (size t, ap number e, get_last (nodes t) (one op t) v.1 (size t) 0 (let k = nodes_size t in omega (arith, k)) refl (ap (λ (w : Numbered). w.1) e))
got base (one op t) v (inr m) = let h = got base t v m in (h.0, h.1, get_front (nodes t) (one op t ∷ []) h.0 v.1 h.2)
got base (two op t u) v (inl e) = (
  size t + size u,
  ap number e,
  get_past (nodes t) (nodes u ++ two op t u ∷ []) (size t + size u) (size u) v.1 (let k = nodes_size t in omega (arith, k))
      (get_last (nodes u) (two op t u) v.1 (size u) 0 (let k = nodes_size u in omega (arith, k)) refl (ap (λ (w : Numbered). w.1) e)),
)
got base (two op t u) v (inr m) = go (got base t v) (got (base + size t) u v) (in_append v (numbered base t) (numbered (base + size t) u) m)
  where
    go : (In v (numbered base t) → IsGot base t v) → (In v (numbered (base + size t) u) → IsGot (base + size t) u v) → In v (numbered base t) ⊎ In v (numbered (base + size t) u) → IsGot base (two op t u) v
    go left right (inl k) = let h = left k in (h.0, h.1, get_front (nodes t) (nodes u ++ two op t u ∷ []) h.0 v.1 h.2)
    go left right (inr k) =
        let h = right k in (
          size t + h.0,
          (let l = h.1 in omega (arith, l)),
          get_past (nodes t) (nodes u ++ two op t u ∷ []) (size t + h.0) h.0 v.1 (let l = nodes_size t in omega (arith, l)) (get_front (nodes u) (two op t u ∷ []) h.0 v.1 h.2),
        )

pub node_got : (t : Expression) (v : Numbered) → In v (numbered 0 t) → slice_get (nodes t) (number v) ≡ Some v.1
node_got t v m = let h = got 0 t v m in let e : number v ≡ h.0 = (let l = h.1 in omega (arith, l)) in ap (slice_get (nodes t)) e ∙ h.2

-- a join of some leaves of a block is that part of it
part_block : (n t : Expression) (mask : ℕ) → is_block n ≡ true → IsJoinOf (block_pairs n) (chosen mask (block_leaves n)) t → IsPart (SomeLeaves mask) n t
part_block (two (Join on) a b) t mask e j = j
part_block (two op a b) t mask e j = absurd (cc)
part_block (one op a) t mask e j = absurd (cc)
part_block (leaf op) t mask e j = absurd (cc)

-- the block that has these leaves is found
pub block_found : (tree : Expression) (base : ℕ) (n : Expression) → In (base, n) (tops false 0 tree) → (L : Leaves) (leaves out : List Numbered) → IsPermutation (leaves ++ out) (numbered_leaves base n)
    → (v : Numbered) → In v leaves → HasNumbers L leaves → block_with tree L ≡ Some (base, n)
block_found tree base n m L leaves out p v i num =
    first_is (λ x. any_in L (numbered_leaves x.0 x.1)) (tops false 0 tree) (base, n) m (any_true L (numbered_leaves base n) v (inside v i) ((num (number v)).1 (v, i, refl))) only
  where
    inside : (w : Numbered) → In w leaves → In w (numbered_leaves base n)
    inside w j = in_moved w (leaves ++ out) (numbered_leaves base n) p (in_left w leaves out j)

    only : (y : Numbered) → In y (tops false 0 tree) → any_in L (numbered_leaves y.0 y.1) ≡ true → y ≡ (base, n)
    only y k h =
        let w = any_found L (numbered_leaves y.0 y.1) h in
        let x = (num (number w.0)).0 w.2 in
        one_block_by tree y (base, n) w.0 x.0 k m w.1 (inside x.0 x.1) (sym x.2)

module _ (env : Env) (costs : Costs) (dag : Dag) (known : DagPlace → Facts) (i : ℕ) (tree : Expression) (there : slice_get (all_trees dag) i ≡ Some tree) (are : AreKnown env.lent dag known) where
  -- what is part of a node has the facts there
  known_at : (n : ℕ) (part : PlacePart) (node t : Expression) → slice_get (nodes tree) n ≡ Some node → IsPart part node t → AreFactsOf env.lent t (known (record { tree = i; node = n; part = part }))
  known_at n part node t e p =
      are (record { tree = i; node = n; part = part }) t
      (and_some (slice_get (all_trees dag) i) (λ (x : Expression). IsSomeAnd (slice_get (nodes x) n) (λ (y : Expression). IsPart part y t)) tree there
      (and_some (slice_get (nodes tree) n) (λ (y : Expression). IsPart part y t) node e p))

  pub table_is : IsTableOf (table_of env costs known i tree) tree
  table_is = record {
    whole = λ v m b. (known_at (number v) AllOf v.1 v.1 (node_got tree v m) refl, ap op_of (sym (node_got tree v m)));
    group = λ base args t m. let e = node_got tree (base, one (Group args) t) m in
        (known_at (base + size t) Lower (one (Group args) t) (one (Partial args) t) e refl, ap (λ o. first_step (op_of o)) (sym e), ap (λ o. second_step (op_of o)) (sym e));
    top = λ base args t m. let e = node_got tree (base, one (Top args) t) m in
        (known_at (base + size t) Lower (one (Top args) t) (one (LocalTop args) t) e refl, ap (λ o. first_step (op_of o)) (sym e), ap (λ o. second_step (op_of o)) (sym e));
    block = λ base n m L leaves out p v j num. let e = block_found tree base n m L leaves out p v j num in
        ((λ t k. subst (λ (o : _). AreFactsOf env.lent t (known (leaves_place i L o))) (sym e) (block_known base n m L leaves out p num t k)), ap pairs_of e);
  }
    where
      block_known : (base : ℕ) (n : Expression) → In (base, n) (tops false 0 tree) → (L : Leaves) (leaves out : List Numbered) → IsPermutation (leaves ++ out) (numbered_leaves base n) → HasNumbers L leaves
          → (t : Expression) → IsJoinOf (block_pairs n) (leaves_of leaves) t → AreFactsOf env.lent t (known (leaves_place i L (Some (base, n))))
      block_known base n m L leaves out p num t k =
          let mask = mask_by L (numbered_leaves base n) in
          let q = picked base n L leaves out p num in
          let j = join_moved (block_pairs n) (leaves_of leaves) (leaves_of (picks L (numbered_leaves base n))) t (IsPermutation-map (λ (w : Numbered). w.1) leaves (picks L (numbered_leaves base n)) q) k in
          let e = ap (chosen mask) (sym (leaves_are base n)) ∙ chosen_picks L (numbered_leaves base n) in
          known_at (top_number base n) (SomeLeaves mask) n t (node_got tree (base, n) (top_in false 0 tree (base, n) m))
          (part_block n t mask (top_block false 0 tree (base, n) m) (subst (λ l. IsJoinOf (block_pairs n) l t) (sym e) j))
