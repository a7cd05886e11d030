-- The forms of a tree are those of its shape, and each Join among them is tied.
use Rattle.std.proofs.Common.{◌≡◌, ◌+◌, ℕ, Bool, true, false, List, [], ◌∷◌, ◌++◌, length, length-append, arith, refl, sym, ap, ap₂, ◌∙◌, subst, ◌⊎◌, inl, inr, Some, slice_get}
use Rattle.structural_props.specs.Actions.{In}
use Rattle.structural_props.specs.KeptLemmas.{in_append}
use Rattle.logical_trees.specs.declared.logic_op.LogicOp.TheVariants.{Join}
use Rattle.logical_trees.specs.Tree.{Expression, leaf, one, two}
use Rattle.logical_trees.specs.Formed.{IsFormed}
use Rattle.list_lemmas.specs.Reading.{get_front, get_past, get_last}
use Rattle.logical_dag.proofs.Placed.{got_in}
use Rattle.rules_shapes.specs.Shapes.{Shape, size, top_number, shape_of, AllLinked}
use Rattle.rules_shapes.proofs.Tied.{shaped_tied}
use Rattle.rules_shapes.proofs.Shaped.{own}
use Rattle.rules_tables.specs.Scripts.{script_of, forms_from, forms_of}
use Rattle.rules_tables.proofs.Script.{script_is}
use Rattle.rules_space.specs.Tree as shape
use Rattle.rules_space.specs.declared.kind.Form.{Form}
use Rattle.rules_space.specs.declared.kind.Form.TheVariants.{Leaf as at_leaf, One as at_one, Two as at_two}
use Rattle.rules_space.specs.declared.kind.Kind.TheVariants as kind
use Rattle.rules_space.specs.Place.{Script, Place, place, linked}
use Rattle.rules_space.specs.Memo.{Memo, Begins, IsTreeOf}
use Rattle.rules_space.specs.Steps.{IsFirst, IsPlacedFirst, AreLinked}

forms_size : (base : ℕ) (t : Expression) → length (forms_from base t) ≡ size t
forms_size base (leaf op) = refl
forms_size base (one op t) = let a = length-append (forms_from base t) (at_one (kind.Node (base + size t)) (top_number base t) ∷ []) in let b = forms_size base t in omega (arith, a, b)
forms_size base (two (Join on) t u) =
    let a = length-append (forms_from base t) (forms_from (base + size t) u ++ at_two kind.Join (top_number base t) (top_number (base + size t) u) ∷ []) in
    let b = length-append (forms_from (base + size t) u) (at_two kind.Join (top_number base t) (top_number (base + size t) u) ∷ []) in
    let c = forms_size base t in
    let d = forms_size (base + size t) u in
    omega (arith, a, b, c, d)
forms_size base (two op t u) =
    let a = length-append (forms_from base t) (forms_from (base + size t) u ++ at_two (kind.Node (base + (size t + size u))) (top_number base t) (top_number (base + size t) u) ∷ []) in
    let b = length-append (forms_from (base + size t) u) (at_two (kind.Node (base + (size t + size u))) (top_number base t) (top_number (base + size t) u) ∷ []) in
    let c = forms_size base t in
    let d = forms_size (base + size t) u in
    omega (arith, a, b, c, d)

-- these forms stand in the list from base on
abbrev StandFrom : List Form → ℕ → List Form → Type 0
StandFrom dag base fs = (k : ℕ) (e : Form) → slice_get fs k ≡ Some e → slice_get dag (base + k) ≡ Some e

stand_left : (dag : List Form) (base : ℕ) (fs gs : List Form) → StandFrom dag base (fs ++ gs) → StandFrom dag base fs
stand_left dag base fs gs h k e m = h k e (get_front fs gs k e m)

stand_right : (dag : List Form) (base n : ℕ) (fs gs : List Form) → n ≡ length fs → StandFrom dag base (fs ++ gs) → StandFrom dag (base + n) gs
stand_right dag base n fs gs l h k e m =
    let p : base + n + k ≡ base + (n + k) = omega arith in
    ap (slice_get dag) p ∙ h (n + k) e (get_past fs gs (n + k) k e (ap (λ i. i + k) l) m)

-- the last of them
stand_last : (dag : List Form) (base n : ℕ) (fs : List Form) (e : Form) → n ≡ length fs → StandFrom dag base (fs ++ e ∷ []) → slice_get dag (base + n) ≡ Some e
stand_last dag base n fs e l h = h n e (get_last fs e e n 0 (let k = l in omega (arith, k)) refl refl)

-- the two halves of what a node over two has, and its own
module _ (dag : List Form) (base : ℕ) (t u : Expression) (e : Form) (h : StandFrom dag base (forms_from base t ++ (forms_from (base + size t) u ++ e ∷ []))) where
  two_left : StandFrom dag base (forms_from base t)
  two_left = stand_left dag base (forms_from base t) (forms_from (base + size t) u ++ e ∷ []) h

  beside : StandFrom dag (base + size t) (forms_from (base + size t) u ++ e ∷ [])
  beside = stand_right dag base (size t) (forms_from base t) (forms_from (base + size t) u ++ e ∷ []) (sym (forms_size base t)) h

  two_right : StandFrom dag (base + size t) (forms_from (base + size t) u)
  two_right = stand_left dag (base + size t) (forms_from (base + size t) u) (e ∷ []) beside

  two_last : slice_get dag (base + (size t + size u)) ≡ Some e
  two_last =
      let p : base + (size t + size u) ≡ base + size t + size u = omega arith in
      ap (slice_get dag) p ∙ stand_last dag (base + size t) (size u) (forms_from (base + size t) u) e (sym (forms_size (base + size t) u)) beside

pub forms_tree : (dag : List Form) (base : ℕ) (t : Expression) → StandFrom dag base (forms_from base t) → IsTreeOf dag (top_number base t) (shape_of base t)
forms_tree dag base (leaf op) h = let p : base ≡ base + 0 = omega arith in ap (slice_get dag) p ∙ h 0 (at_leaf (kind.Node base)) refl
forms_tree dag base (one op t) h =
    let e = at_one (kind.Node (base + size t)) (top_number base t) in
    (top_number base t, forms_tree dag base t (stand_left dag base (forms_from base t) (e ∷ []) h), stand_last dag base (size t) (forms_from base t) e (sym (forms_size base t)) h)
forms_tree dag base (two (Join on) t u) h =
    let e = at_two kind.Join (top_number base t) (top_number (base + size t) u) in
    (top_number base t, top_number (base + size t) u, forms_tree dag base t (two_left dag base t u e h), forms_tree dag (base + size t) u (two_right dag base t u e h), two_last dag base t u e h)
forms_tree dag base (two op t u) h =
    let e = at_two (kind.Node (base + (size t + size u))) (top_number base t) (top_number (base + size t) u) in
    (top_number base t, top_number (base + size t) u, forms_tree dag base t (two_left dag base t u e h), forms_tree dag (base + size t) u (two_right dag base t u e h), two_last dag base t u e h)

-- all stand from 0 on
start : (fs : List Form) → StandFrom fs 0 fs
start fs k e m = let p : 0 + k ≡ k = omega arith in ap (slice_get fs) p ∙ m

pub forms_are : (tree : Expression) → IsTreeOf (forms_of tree) (top_number 0 tree) (shape_of 0 tree)
forms_are tree = forms_tree (forms_of tree) 0 tree (start (forms_of tree))

-- ---- ties

module _ (S : Script) (dag : List Form) (M : Memo) (at : ℕ → Place) (begins : Begins dag M) (placed : IsPlacedFirst M at) where
  tree_first : (n : ℕ) (u : Shape) → IsTreeOf dag n u → IsFirst M n u
  tree_first n (shape.leaf k) h = begins n (at_leaf k) h
  tree_first n (shape.one k u) h = (h.0, tree_first h.0 u h.1, begins n (at_one k h.0) h.2)
  tree_first n (shape.two k u v) h = (h.0, h.1, tree_first h.0 u h.2, tree_first h.1 v h.3, begins n (at_two k h.0 h.1) h.4)

  place_at : (n : ℕ) (u : Shape) → IsTreeOf dag n u → place u ≡ at n
  place_at n u h = placed n u (tree_first n u h)

  abbrev IsTied : List Form → Type 0
  IsTied fs = (a b : ℕ) → In (at_two kind.Join a b) fs → linked S (at a) (at b) ≡ true

  tied_append : (fs gs : List Form) → IsTied fs → IsTied gs → IsTied (fs ++ gs)
  tied_append fs gs h k a b m = go (in_append (at_two kind.Join a b) fs gs m)
    where
      go : In (at_two kind.Join a b) fs ⊎ In (at_two kind.Join a b) gs → linked S (at a) (at b) ≡ true
      go (inl i) = h a b i
      go (inr i) = k a b i

  -- the children of a Join's form
  abbrev joined_left : Form → ℕ
  joined_left (at_two k a b) = a
  joined_left (at_one k a) = 0
  joined_left (at_leaf k) = 0

  abbrev joined_right : Form → ℕ
  joined_right (at_two k a b) = b
  joined_right (at_one k a) = 0
  joined_right (at_leaf k) = 0

  abbrev is_joined : Form → Bool
  is_joined (at_two kind.Join a b) = true
  is_joined (at_two k a b) = false
  is_joined (at_one k a) = false
  is_joined (at_leaf k) = false

  other_tied : (e : Form) → is_joined e ≡ false → IsTied (e ∷ [])
  other_tied e n a b (inl m) = absurd (let z : true ≡ false = ap is_joined m ∙ n in cc)
  other_tied e n a b (inr m) = absurd m

  join_tied : (x y : ℕ) → linked S (at x) (at y) ≡ true → IsTied (at_two kind.Join x y ∷ [])
  join_tied x y h a b (inl m) = subst (λ i. linked S (at i) (at b) ≡ true) (sym (ap joined_left m)) (subst (λ i. linked S (at x) (at i) ≡ true) (sym (ap joined_right m)) h)
  join_tied x y h a b (inr m) = absurd m

  forms_tied : (base : ℕ) (t : Expression) → StandFrom dag base (forms_from base t) → AllLinked S (shape_of base t) → IsTied (forms_from base t)
  forms_tied base (leaf op) h l = other_tied (at_leaf (kind.Node base)) refl
  forms_tied base (one op t) h l =
      let e = at_one (kind.Node (base + size t)) (top_number base t) in
      tied_append (forms_from base t) (e ∷ []) (forms_tied base t (stand_left dag base (forms_from base t) (e ∷ []) h) l) (other_tied e refl)
  forms_tied base (two (Join on) t u) h l =
      let e = at_two kind.Join (top_number base t) (top_number (base + size t) u) in
      let a = two_left dag base t u e h in
      let b = two_right dag base t u e h in
      tied_append (forms_from base t) (forms_from (base + size t) u ++ e ∷ []) (forms_tied base t a l.0)
      (tied_append (forms_from (base + size t) u) (e ∷ []) (forms_tied (base + size t) u b l.1)
      (join_tied (top_number base t) (top_number (base + size t) u)
      (ap₂ (linked S) (sym (place_at (top_number base t) (shape_of base t) (forms_tree dag base t a))) (sym (place_at (top_number (base + size t) u) (shape_of (base + size t) u) (forms_tree dag (base + size t) u b))) ∙ l.2)))
  forms_tied base (two op t u) h l =
      let e = at_two (kind.Node (base + (size t + size u))) (top_number base t) (top_number (base + size t) u) in
      let a = two_left dag base t u e h in
      let b = two_right dag base t u e h in
      tied_append (forms_from base t) (forms_from (base + size t) u ++ e ∷ []) (forms_tied base t a l.0)
      (tied_append (forms_from (base + size t) u) (e ∷ []) (forms_tied (base + size t) u b l.1) (other_tied e refl))

pub forms_linked : (results : List (List ℕ)) (tree : Expression) (M : Memo) (at : ℕ → Place) → IsFormed results tree → Begins (forms_of tree) M → IsPlacedFirst M at → AreLinked (script_of tree) (forms_of tree) at
forms_linked results tree M at h begins placed g a b m =
    let s = script_is results tree h in
    let l = shaped_tied results (script_of tree) 0 tree tree (shape_of 0 tree) h s.0 (own results (script_of tree) 0 tree h).shaped in
    forms_tied (script_of tree) (forms_of tree) M at begins placed 0 tree (start (forms_of tree)) l a b (got_in (forms_of tree) g (at_two kind.Join a b) m)
