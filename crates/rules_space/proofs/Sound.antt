-- The tree of a group's first expressions reaches every tree of the group.
use Rattle.std.proofs.Common.{◌≡◌, ℕ, zero, suc, ◌+◌, ◌≤◌, ◌<◌, true, List, Some, refl, sym, ap, ap₂, ◌∙◌, subst, arith}
use Rattle.std.specs.Prelude.{slice_get}
use Rattle.rules_space.specs.Tree.{Kind, Node, Join, Partial, Finish, Tree, leaf, one, two, Form, at_leaf, at_one, at_two}
use Rattle.rules_space.specs.Place.{Script, Place, place, linked}
use Rattle.rules_space.specs.Space.{commute, associate, split, here, Reaches, stays, after}
use Rattle.rules_space.specs.Memo.{Memo, In, IsTreeOf, Begins}
use Rattle.rules_space.specs.Steps.{From, by_dag, by_commute, by_associate, by_inner, by_half, by_split, IsStepped, IsFirst, IsPlacedFirst, AreLinked, IsMemo}
use Rattle.rules_space.specs.Laws.{MemoIsSpace}
use Rattle.rules_space.proofs.Linked.{AllTied, IsTied, reached_tied, reached_place, size, reached_size, weighs, then, only, all_below, all_left, all_right, all_both, regrouped}

-- a tree whose root is at a number in a group
abbrev RootAt : Memo → ℕ → ℕ → Tree → Type 0
RootAt M g j (leaf k) = M g j ≡ Some (at_leaf k)
RootAt M g j (one k u) = (h : ℕ) × In M h u × (M g j ≡ Some (at_one k h))
RootAt M g j (two k u v) = (h i : ℕ) × In M h u × In M i v × (M g j ≡ Some (at_two k h i))

rooted : (M : Memo) (g : ℕ) (t : Tree) → In M g t → (j : ℕ) × RootAt M g j t
rooted M g (leaf k) w = w
rooted M g (one k u) w = (w.2.0, (w.0, w.1, w.2.1))
rooted M g (two k u v) w = (w.4.0, (w.0, w.1, w.2, w.3, w.4.1))

first_in : (M : Memo) (g : ℕ) (t : Tree) → IsFirst M g t → In M g t
first_in M g (leaf k) w = (0, w)
first_in M g (one k u) w = (w.0, first_in M w.0 u w.1, (0, w.2))
first_in M g (two k u v) w = (w.0, w.1, first_in M w.0 u w.2, first_in M w.1 v w.3, (0, w.4))

-- a first tree over a known first expression
first_one : (M : Memo) (g : ℕ) (k : Kind) (a : ℕ) (c : Tree) → IsFirst M g c → M g 0 ≡ Some (at_one k a) → (u : Tree) × (c ≡ one k u) × IsFirst M a u
first_one M g k a (leaf x) w e = let no : Some (at_leaf x) ≡ Some (at_one k a) = sym w ∙ e in cc
first_one M g k a (one x u) w e =
    let is : Some (at_one x w.0) ≡ Some (at_one k a) = sym w.2 ∙ e in
    let kind : x ≡ k = cc in
    let kid : w.0 ≡ a = cc in
    (u, ap (λ y. one y u) kind, subst (λ h. IsFirst M h u) kid w.1)
first_one M g k a (two x u v) w e = let no : Some (at_two x w.0 w.1) ≡ Some (at_one k a) = sym w.4 ∙ e in cc

first_two : (M : Memo) (g : ℕ) (k : Kind) (a b : ℕ) (c : Tree) → IsFirst M g c → M g 0 ≡ Some (at_two k a b)
    → (u v : Tree) × (c ≡ two k u v) × IsFirst M a u × IsFirst M b v
first_two M g k a b (leaf x) w e = let no : Some (at_leaf x) ≡ Some (at_two k a b) = sym w ∙ e in cc
first_two M g k a b (one x u) w e = let no : Some (at_one x w.0) ≡ Some (at_two k a b) = sym w.2 ∙ e in cc
first_two M g k a b (two x u v) w e =
    let is : Some (at_two x w.0 w.1) ≡ Some (at_two k a b) = sym w.4 ∙ e in
    let kind : x ≡ k = cc in
    let kid : w.0 ≡ a = cc in
    let other : w.1 ≡ b = cc in
    (u, v, ap (λ y. two y u v) kind, subst (λ h. IsFirst M h u) kid w.2, subst (λ h. IsFirst M h v) other w.3)

by_number : (P : ℕ → Type 0) → ((j : ℕ) → ((i : ℕ) → i < j → P i) → P j) → (j : ℕ) → P j
by_number P step j = go (suc j) j (omega arith)
  where
    go : (m i : ℕ) → i < m → P i
    go zero i lt = absurd (omega arith)
    go (suc m) i lt = step i (λ k l. go m k (omega arith))

-- what is shown of a tree in a group
abbrev Reached : Script → Memo → ℕ → Tree → Type 0
Reached S M g t = (c : Tree) × IsFirst M g c × Reaches S c t

abbrev Forward : Script → Memo → ℕ → Type 0
Forward S M n = (g : ℕ) (t : Tree) → size t ≤ n → In M g t → Reached S M g t

-- what is shown of a listed join, over the first trees of its groups
abbrev Joined : Script → Memo → ℕ → ℕ → Tree → Type 0
Joined S M a b c = (u v : Tree) × IsFirst M a u × IsFirst M b v × Reaches S (two Join u v) c

abbrev Back : Script → Memo → ℕ → Type 0
Back S M n = (g j a b : ℕ) (c : Tree) → size c ≤ n → IsFirst M g c → M g j ≡ Some (at_two Join a b) → Joined S M a b c

new_one : (S : Script) (M : Memo) (n : ℕ) → Forward S M n → (g : ℕ) (k : Kind) (h : ℕ) (u : Tree) → M g 0 ≡ Some (at_one k h) → In M h u → size (one k u) ≤ suc n
    → Reached S M g (one k u)
new_one S M n forward g k h u is w le =
    let low = weighs k in
    let c = forward h u (omega arith) w in
    (one k c.0, (h, c.1, is), all_below S k c.2)

new_two : (S : Script) (M : Memo) (n : ℕ) → Forward S M n → (g : ℕ) (k : Kind) (h i : ℕ) (u v : Tree) → M g 0 ≡ Some (at_two k h i) → In M h u → In M i v
    → size (two k u v) ≤ suc n → Reached S M g (two k u v)
new_two S M n forward g k h i u v is w x le =
    let low = weighs k in
    let c = forward h u (omega arith) w in
    let d = forward i v (omega arith) x in
    (two k c.0 d.0, (h, i, c.1, d.1, is), all_both S k c.2 d.2)

abbrev Earlier : Script → Memo → ℕ → ℕ → ℕ → Type 0
Earlier S M n g j = (i : ℕ) → i < j → (t : Tree) → size t ≤ suc n → RootAt M g i t → Reached S M g t

forward_leaf : (S : Script) (dag : List Form) (M : Memo) (at : ℕ → Place) (g j : ℕ) (k : Kind)
    → From S dag M at g j (at_leaf k) → M g j ≡ Some (at_leaf k) → Reached S M g (leaf k)
forward_leaf S dag M at g j k (by_dag e d) is = (leaf k, is, stays _)

forward_one : (S : Script) (dag : List Form) (M : Memo) (at : ℕ → Place) (n : ℕ) → Forward S M n
    → (g j : ℕ) → Earlier S M n g j → (k : Kind) (h : ℕ) (u : Tree)
    → From S dag M at g j (at_one k h) → M g j ≡ Some (at_one k h) → In M h u → size (one k u) ≤ suc n → Reached S M g (one k u)
forward_one S dag M at n forward g j earlier k h u (by_dag e d) is w le = new_one S M n forward g k h u is w le
forward_one S dag M at n forward g j earlier k h u (by_half o x a e y) is w le = new_one S M n forward g _ _ u is w le
forward_one S dag M at n forward g j earlier k h u (by_split m i x a p lt e y f) is w le =
    let c = forward p u (omega arith) w in
    let kid = first_one M p (Partial x) a c.0 c.1 f in
    let same : size c.0 ≡ size u = reached_size S c.2 in
    let whole : size c.0 ≡ 1 + size kid.0 = ap size kid.1 in
    let before = earlier i lt (one (Node x) kid.0) (omega arith) (a, first_in M a kid.0 kid.2, e) in
    (before.0, before.1, then S before.2 (after (here (split x kid.0 y)) (all_below S (Finish x) (subst (λ z. Reaches S z u) kid.1 c.2))))

module _ (S : Script) (dag : List Form) (M : Memo) (at : ℕ → Place)
    (stepped : IsStepped S dag M at) (placed : IsPlacedFirst M at) (linked_dag : AreLinked S dag at) where
  tied_at : (h i : ℕ) (u v : Tree) → IsFirst M h u → IsFirst M i v → linked S (at h) (at i) ≡ true → linked S (place u) (place v) ≡ true
  tied_at h i u v w x l =
      subst (λ p. linked S p (place v) ≡ true) (sym (placed h u w)) (subst (λ p. linked S (at h) p ≡ true) (sym (placed i v x)) l)

  tied_dag : (g : ℕ) (k : Kind) (h i : ℕ) (u v : Tree) → IsFirst M h u → IsFirst M i v → slice_get dag g ≡ Some (at_two k h i) → IsTied S k (place u) (place v)
  tied_dag g Join h i u v w x d = tied_at h i u v w x (linked_dag g h i d)
  tied_dag g (Node n) h i u v w x d = tt
  tied_dag g (Partial n) h i u v w x d = tt
  tied_dag g (Finish n) h i u v w x d = tt

  tied_first : (g j : ℕ) → j ≡ 0 → (k : Kind) (h i : ℕ) → From S dag M at g j (at_two k h i) → (u v : Tree) → IsFirst M h u → IsFirst M i v → IsTied S k (place u) (place v)
  tied_first g j z k h i (by_dag e d) u v w x = tied_dag g k h i u v w x d
  tied_first g j z k h i (by_commute m o a b lt e) u v w x = absurd (omega arith)
  tied_first g j z k h i (by_associate m o kk a c x0 y hh lt e f l lists) u v w x = absurd (omega arith)
  tied_first g j z k h i (by_inner o i0 kk a c x0 y e f l) u v w x = tied_at y c u v w x l

  first_tied : (g : ℕ) (c : Tree) → IsFirst M g c → AllTied S c
  first_tied g (leaf k) w = tt
  first_tied g (one k u) w = first_tied w.0 u w.1
  first_tied g (two k u v) w =
      (first_tied w.0 u w.2, first_tied w.1 v w.3, tied_first g 0 refl k w.0 w.1 (stepped g 0 _ w.4) u v w.2 w.3)

  module _ (n : ℕ) (forward : Forward S M n) (back : Back S M n) where
    forward_two : (g j : ℕ) → Earlier S M n g j → (k : Kind) (h i : ℕ) (u v : Tree)
        → From S dag M at g j (at_two k h i) → M g j ≡ Some (at_two k h i) → In M h u → In M i v → size (two k u v) ≤ suc n → Reached S M g (two k u v)
    forward_two g j earlier k h i u v (by_dag e d) is wu wv le = new_two S M n forward g k h i u v is wu wv le
    forward_two g j earlier k h i u v (by_inner o i0 kk a c x y e f l) is wu wv le = new_two S M n forward g _ _ _ u v is wu wv le
    forward_two g j earlier k h i u v (by_commute m o a b lt e) is wu wv le =
        let before = earlier o lt (two Join v u) (omega arith) (a, b, wv, wu, e) in
        (before.0, before.1, then S before.2 (only S (commute v u)))
    forward_two g j earlier k h i u v (by_associate m o kk a c x y hh lt e f l lists) is wu wv le =
        let cu = forward x u (omega arith) wu in
        let cv = forward hh v (omega arith) wv in
        let same_u : size cu.0 ≡ size u = reached_size S cu.2 in
        let same_v : size cv.0 ≡ size v = reached_size S cv.2 in
        let parts = back hh lists.0 y c cv.0 (omega arith) cv.1 lists.1 in
        let same : size (two Join parts.0 parts.1) ≡ size cv.0 = reached_size S parts.4 in
        let before = earlier o lt (two Join (two Join cu.0 parts.0) parts.1) (omega arith)
        (a, c, (x, y, first_in M x cu.0 cu.1, first_in M y parts.0 parts.2, (kk, f)), first_in M c parts.1 parts.3, e) in (
          before.0,
          before.1,
          then S before.2
              (then S (only S (associate cu.0 parts.0 parts.1 (tied_at y c parts.0 parts.1 parts.2 parts.3 l)))
              (all_both S Join cu.2 (then S parts.4 cv.2))),
        )

    forward_at : (g j : ℕ) → Earlier S M n g j → (t : Tree) → size t ≤ suc n → RootAt M g j t → Reached S M g t
    forward_at g j earlier (leaf k) le w = forward_leaf S dag M at g j k (stepped g j _ w) w
    forward_at g j earlier (one k u) le w = forward_one S dag M at n forward g j earlier k w.0 u (stepped g j _ w.2) w.2 w.1 le
    forward_at g j earlier (two k u v) le w = forward_two g j earlier k w.0 w.1 u v (stepped g j _ w.4) w.4 w.2 w.3 le

    forward_more : Forward S M (suc n)
    forward_more g t le w =
        let at_number = rooted M g t w in
        by_number (λ j. (u : Tree) → size u ≤ suc n → RootAt M g j u → Reached S M g u) (λ j earlier. forward_at g j earlier) at_number.0 t le at_number.1

    first_pair : (g a b : ℕ) (c : Tree) → IsFirst M g c → M g 0 ≡ Some (at_two Join a b) → Joined S M a b c
    first_pair g a b c w e =
        let parts = first_two M g Join a b c w e in
        (parts.0, parts.1, parts.3, parts.4, subst (λ z. Reaches S z c) parts.2 (stays c))

    back_two : (g : ℕ) (c : Tree) → size c ≤ suc n → IsFirst M g c → (j : ℕ)
        → ((i : ℕ) → i < j → (a b : ℕ) → M g i ≡ Some (at_two Join a b) → Joined S M a b c)
        → (a b : ℕ) → From S dag M at g j (at_two Join a b) → M g j ≡ Some (at_two Join a b) → Joined S M a b c
    back_two g c le w j earlier a b (by_dag e d) is = first_pair g a b c w is
    back_two g c le w j earlier a b (by_inner o i0 kk a0 c0 x y e f l) is = first_pair g _ _ c w is
    back_two g c le w j earlier a b (by_commute m o x y lt e) is =
        let before = earlier o lt x y e in
        (before.1, before.0, before.3, before.2, after (here (commute before.1 before.0)) before.4)
    back_two g c le w j earlier a b (by_associate m o kk a0 c0 x y hh lt e f l lists) is =
        let before = earlier o lt a0 c0 e in
        let whole : size (two Join before.0 before.1) ≡ size c = reached_size S before.4 in
        let parts = back a0 kk x y before.0 (omega arith) before.2 f in
        let left_size : size (two Join parts.0 parts.1) ≡ size before.0 = reached_size S parts.4 in
        let inner_in : In M hh (two Join parts.1 before.1) = (y, c0, first_in M y parts.1 parts.3, first_in M c0 before.1 before.3, lists) in
        let new = forward hh (two Join parts.1 before.1) (omega arith) inner_in in
        let outer = forward a0 (two Join parts.0 parts.1) (omega arith) (x, y, first_in M x parts.0 parts.2, first_in M y parts.1 parts.3, (kk, f)) in
        let tied = reached_tied S outer.2 (first_tied a0 outer.0 outer.1) in (
          parts.0,
          new.0,
          parts.2,
          new.1,
          then S (all_right S Join parts.0 new.2)
              (then S (regrouped S parts.0 parts.1 before.1 tied.2)
              (then S (all_left S Join before.1 parts.4) before.4)),
        )

    back_more : Back S M (suc n)
    back_more g j a b c le w e =
        by_number (λ i. (x y : ℕ) → M g i ≡ Some (at_two Join x y) → Joined S M x y c)
        (λ i earlier x y is. back_two g c le w i earlier x y (stepped g i _ is) is) j a b e

  both : (n : ℕ) → Forward S M n × Back S M n
  both zero =
      (λ g t le w. absurd (none t le), λ g j a b c le w e. absurd (none c le))
    where
      none : (t : Tree) → size t ≤ 0 → ⊥
      none (leaf k) le = let low = weighs k in omega arith
      none (one k u) le = let low = weighs k in omega arith
      none (two k u v) le = let low = weighs k in omega arith
  both (suc n) = (forward_more n (both n).0 (both n).1, back_more n (both n).0 (both n).1)

  pub reached : (g : ℕ) (t : Tree) → In M g t → Reached S M g t
  reached g t w = (both (size t)).0 g t (omega arith) w

first_same : (M : Memo) (g : ℕ) (c d : Tree) → IsFirst M g c → IsFirst M g d → c ≡ d
first_same M g (leaf k) (leaf x) w y = let is : Some (at_leaf k) ≡ Some (at_leaf x) = sym w ∙ y in cc
first_same M g (leaf k) (one x u) w y = let no : Some (at_leaf k) ≡ Some (at_one x y.0) = sym w ∙ y.2 in cc
first_same M g (leaf k) (two x u v) w y = let no : Some (at_leaf k) ≡ Some (at_two x y.0 y.1) = sym w ∙ y.4 in cc
first_same M g (one k u) d w y =
    let parts = first_one M g k w.0 d y w.2 in
    ap (λ z. one k z) (first_same M w.0 u parts.0 w.1 parts.2) ∙ sym parts.1
first_same M g (two k u v) d w y =
    let parts = first_two M g k w.0 w.1 d y w.4 in
    ap₂ (λ z x. two k z x) (first_same M w.0 u parts.0 w.2 parts.3) (first_same M w.1 v parts.1 w.3 parts.4) ∙ sym parts.2

begun_first : (dag : List Form) (M : Memo) → Begins dag M → (n : ℕ) (t : Tree) → IsTreeOf dag n t → IsFirst M n t
begun_first dag M b n (leaf k) w = b n _ w
begun_first dag M b n (one k u) w = (w.0, begun_first dag M b w.0 u w.1, b n _ w.2)
begun_first dag M b n (two k u v) w = (w.0, w.1, begun_first dag M b w.0 u w.2, begun_first dag M b w.1 v w.3, b n _ w.4)

pub memo_is_space : MemoIsSpace
memo_is_space S dag M at memo n t u is w =
    let c = reached S dag M at memo.stepped memo.placed memo.linked_dag n u w in
    subst (λ z. Reaches S z u) (first_same M n c.0 t c.1 (begun_first dag M memo.begins n t is)) c.2

-- every tree of a group has the group's place
pub found : (S : Script) (dag : List Form) (M : Memo) (at : ℕ → Place) → IsMemo S dag M at → (g : ℕ) (u : Tree) → In M g u → place u ≡ at g
found S dag M at memo g u w =
    let c = reached S dag M at memo.stepped memo.placed memo.linked_dag g u w in
    sym (reached_place S c.2) ∙ memo.placed g c.0 c.1
