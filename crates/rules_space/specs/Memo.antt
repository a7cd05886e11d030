-- Groups of expressions.
use Rattle.std.specs.Prelude.{ℕ, ◌≡◌, true, List, Option, Some, slice_get}
use Rattle.rules_space.specs.Tree.{Node, Join, Partial, Finish, Tree, leaf, one, two, Form, at_leaf, at_one, at_two}
use Rattle.rules_space.specs.Place.{Script, Place, linked}

-- the expression at a number in a group, where there is one
abbrev pub Memo : Type 0
Memo = ℕ → ℕ → Option Form

abbrev pub Lists : Memo → ℕ → Form → Type 0
Lists M g e = (j : ℕ) × (M g j ≡ Some e)

-- a tree is one of a group
abbrev pub In : Memo → ℕ → Tree → Type 0
In M g (leaf k) = Lists M g (at_leaf k)
In M g (one k u) = (h : ℕ) × In M h u × Lists M g (at_one k h)
In M g (two k u v) = (h i : ℕ) × In M h u × In M i v × Lists M g (at_two k h i)

-- each rule on each match is listed
pub record IsClosed (S : Script) (M : Memo) (at : ℕ → Place) : Type 0 where
  pub commute : (g a b : ℕ) → Lists M g (at_two Join a b) → Lists M g (at_two Join b a)
  pub associate : (g a c x y : ℕ) → Lists M g (at_two Join a c) → Lists M a (at_two Join x y) → linked S (at y) (at c) ≡ true
      → (h : ℕ) × Lists M h (at_two Join y c) × Lists M g (at_two Join x h)
  pub split : (g n a : ℕ) → Lists M g (at_one (Node n) a) → S.is_group n ≡ true
      → (p : ℕ) × Lists M p (at_one (Partial n) a) × Lists M g (at_one (Finish n) p)

-- a tree is that of a node of the Dag, which is a list of forms over earlier nodes
abbrev pub IsTreeOf : List Form → ℕ → Tree → Type 0
IsTreeOf dag n (leaf k) = slice_get dag n ≡ Some (at_leaf k)
IsTreeOf dag n (one k u) = (h : ℕ) × IsTreeOf dag h u × (slice_get dag n ≡ Some (at_one k h))
IsTreeOf dag n (two k u v) = (h i : ℕ) × IsTreeOf dag h u × IsTreeOf dag i v × (slice_get dag n ≡ Some (at_two k h i))

-- the groups begin with the Dag's nodes
abbrev pub Begins : List Form → Memo → Type 0
Begins dag M = (n : ℕ) (e : Form) → slice_get dag n ≡ Some e → M n 0 ≡ Some e
