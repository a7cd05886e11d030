-- Where an expression stands: all that its estimate, its facts and its columns hang on.
use Rattle.std.specs.Prelude.{ℕ, Bool, false, ◌&&◌, ◌||◌, ◌==◌, List, [], ◌∷◌}
use Rattle.rules_space.specs.Tree.{Kind, Node, Join, Partial, Finish, Tree, leaf, one, two}

-- a set of nodes of the Dag
abbrev pub Leaves : Type 0
Leaves = ℕ → Bool

-- a node of the Dag, a join of some leaves of a block, or the first step of a node that goes in two
pub data Place : Type 0 where
  Whole : (node : ℕ) → Place
  Block : (leaves : Leaves) → Place
  Half : (node : ℕ) → Place

-- what the script says
pub record Script : Type 0 where
  -- whether the node of that number is one that goes in two steps
  pub is_group : ℕ → Bool
  -- the equalities of all join blocks, each by the two leaves that it ties
  pub links : List (ℕ × ℕ)

abbrev pub leaves_at : Place → Leaves
leaves_at (Whole n) = λ m. n == m
leaves_at (Block L) = L
leaves_at (Half n) = λ m. false

abbrev pub either : Leaves → Leaves → Leaves
either L R = λ m. L m || R m

-- the place of a node over the leaves below it
abbrev pub placed : Kind → Leaves → Place
placed (Node n) L = Whole n
placed Join L = Block L
placed (Partial n) L = Half n
placed (Finish n) L = Whole n

abbrev pub place : Tree → Place
place (leaf k) = placed k (λ m. false)
place (one k u) = placed k (leaves_at (place u))
place (two k u v) = placed k (either (leaves_at (place u)) (leaves_at (place v)))

-- whether an equality has a side in each
abbrev pub linked_by : List (ℕ × ℕ) → Leaves → Leaves → Bool
linked_by [] L R = false
linked_by (p ∷ links) L R = (L p.0 && R p.1) || ((L p.1 && R p.0) || linked_by links L R)

abbrev pub linked : Script → Place → Place → Bool
linked S p q = linked_by S.links (leaves_at p) (leaves_at q)
