-- What the rules reach from a tree.
use Rattle.std.specs.Prelude.{ℕ, ◌≡◌, true}
use Rattle.rules_space.specs.Tree.{Kind, Node, Join, Partial, Finish, Tree, one, two}
use Rattle.rules_space.specs.Place.{Script, place, linked}

-- one rule at the root
pub data Rule (S : Script) : Tree → Tree → Type 0 where
  commute : (t u : Tree) → Rule S (two Join t u) (two Join u t)
  associate : (t u v : Tree) → linked S (place u) (place v) ≡ true → Rule S (two Join (two Join t u) v) (two Join t (two Join u v))
  split : (n : ℕ) (t : Tree) → S.is_group n ≡ true → Rule S (one (Node n) t) (one (Finish n) (one (Partial n) t))

-- one rule at one place
pub data Step (S : Script) : Tree → Tree → Type 0 where
  here : {t u : Tree} → Rule S t u → Step S t u
  below : (k : Kind) {t u : Tree} → Step S t u → Step S (one k t) (one k u)
  left : (k : Kind) {t u : Tree} (v : Tree) → Step S t u → Step S (two k t v) (two k u v)
  right : (k : Kind) (v : Tree) {t u : Tree} → Step S t u → Step S (two k v t) (two k v u)

-- by any number of rules
pub data Reaches (S : Script) : Tree → Tree → Type 0 where
  stays : (t : Tree) → Reaches S t t
  after : {t u v : Tree} → Step S t u → Reaches S u v → Reaches S t v
