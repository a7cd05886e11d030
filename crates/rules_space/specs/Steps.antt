-- Where each listed expression comes from.
use Rattle.std.specs.Prelude.{ℕ, ◌≡◌, ◌<◌, true, List, Some, slice_get}
use Rattle.rules_space.specs.Tree.{Node, Join, Partial, Finish, Tree, leaf, one, two, Form, at_leaf, at_one, at_two}
use Rattle.rules_space.specs.Place.{Script, Place, place, linked}
use Rattle.rules_space.specs.Memo.{Memo, Lists, Begins}

-- the expression at a number j of group g is the Dag's, or a rule step
pub data From (S : Script) (dag : List Form) (M : Memo) (at : ℕ → Place) (g : ℕ) : ℕ → Form → Type 0 where
  by_dag : (e : Form) → slice_get dag g ≡ Some e → From S dag M at g 0 e
  by_commute : (j i a b : ℕ) → i < j → M g i ≡ Some (at_two Join a b) → From S dag M at g j (at_two Join b a)
  by_associate : (j i k a c x y h : ℕ) → i < j → M g i ≡ Some (at_two Join a c) → M a k ≡ Some (at_two Join x y)
      → linked S (at y) (at c) ≡ true → Lists M h (at_two Join y c) → From S dag M at g j (at_two Join x h)
  by_inner : (o i k a c x y : ℕ) → M o i ≡ Some (at_two Join a c) → M a k ≡ Some (at_two Join x y)
      → linked S (at y) (at c) ≡ true → From S dag M at g 0 (at_two Join y c)
  by_half : (o n a : ℕ) → M o 0 ≡ Some (at_one (Node n) a) → S.is_group n ≡ true → From S dag M at g 0 (at_one (Partial n) a)
  by_split : (j i n a p : ℕ) → i < j → M g i ≡ Some (at_one (Node n) a) → S.is_group n ≡ true
      → M p 0 ≡ Some (at_one (Partial n) a) → From S dag M at g j (at_one (Finish n) p)

abbrev pub IsStepped : Script → List Form → Memo → (ℕ → Place) → Type 0
IsStepped S dag M at = (g j : ℕ) (e : Form) → M g j ≡ Some e → From S dag M at g j e

-- the tree of the groups' first expressions
abbrev pub IsFirst : Memo → ℕ → Tree → Type 0
IsFirst M g (leaf k) = M g 0 ≡ Some (at_leaf k)
IsFirst M g (one k u) = (h : ℕ) × IsFirst M h u × (M g 0 ≡ Some (at_one k h))
IsFirst M g (two k u v) = (h i : ℕ) × IsFirst M h u × IsFirst M i v × (M g 0 ≡ Some (at_two k h i))

-- a group's place is that of the tree of its first expressions
abbrev pub IsPlacedFirst : Memo → (ℕ → Place) → Type 0
IsPlacedFirst M at = (g : ℕ) (c : Tree) → IsFirst M g c → place c ≡ at g

-- each Join of the Dag has an equality with a side in each child
abbrev pub AreLinked : Script → List Form → (ℕ → Place) → Type 0
AreLinked S dag at = (g a b : ℕ) → slice_get dag g ≡ Some (at_two Join a b) → linked S (at a) (at b) ≡ true

-- groups that follow the rules: they begin with the Dag, and each further expression is a rule step
pub record IsMemo (S : Script) (dag : List Form) (M : Memo) (at : ℕ → Place) : Type 0 where
  pub begins : Begins dag M
  pub stepped : IsStepped S dag M at
  pub placed : IsPlacedFirst M at
  pub linked_dag : AreLinked S dag at
