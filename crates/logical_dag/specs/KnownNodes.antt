-- The facts of all nodes of a tree, kept in a list.
use Rattle.std.specs.Prelude.{◌≡◌, ◌⊎◌, ◌+◌, ◌-◌, ℕ, List, [], ◌∷◌, ◌++◌, length, slice_get, Some, IsSomeAnd}
use Rattle.fd_closure.specs.declared.facts.Facts.{Facts}
use Rattle.logical_dag.specs.declared.known_nodes.NodeFacts.{NodeFacts}
use Rattle.logical_dag.specs.declared.dag.Dag.{Dag}
use Rattle.logical_dag.specs.declared.place.Place.{Place}
use Rattle.logical_trees.specs.declared.logic_op.LogicOp.{LogicOp}
use Rattle.logical_trees.specs.Tree.{Expression, leaf, one, two, nodes}
use Rattle.logical_dag.specs.Facts.{AreFactsOf}
use Rattle.logical_dag.specs.Scripts.{all_trees, IsBindable}
use Rattle.logical_dag.specs.Known.{AreFactsAbove, AreFactsOver}
use Rattle.logical_dag.specs.Places.{IsPart, AreSharedFacts}

-- the facts of the expression stand at that number of the list, those of its last child before them, and those of the left
-- one of two at the number that is told
abbrev pub HasFacts : List Facts → List NodeFacts → Expression → ℕ → Type 0
HasFacts shared known (leaf op) n = IsSomeAnd (slice_get known n) (λ k. AreFactsOf shared (leaf op) k.facts)
HasFacts shared known (one op t) n = IsSomeAnd (slice_get known n) (λ k. AreFactsOf shared (one op t) k.facts × HasFacts shared known t (n - 1))
HasFacts shared known (two op t u) n =
    IsSomeAnd (slice_get known n) (λ k. AreFactsOf shared (two op t u) k.facts × HasFacts shared known t k.left × HasFacts shared known u (n - 1))

-- the list has the facts of the nodes of a tree by number, from that number on
abbrev pub HasNodes : List Facts → List NodeFacts → Expression → ℕ → Type 0
HasNodes shared known t n = (i : ℕ) (u : Expression) → slice_get (nodes t) i ≡ Some u → HasFacts shared known u (n + i)

-- nothing was kept, or what was has the facts of the expression at that number
abbrev pub MayHaveFacts : List Facts → List NodeFacts → Expression → ℕ → Type 0
MayHaveFacts shared known t n = (known ≡ []) ⊎ HasFacts shared known t n

-- the same of the nodes of a tree
abbrev pub MayHaveNodes : List Facts → List NodeFacts → Expression → Type 0
MayHaveNodes shared known t = (known ≡ []) ⊎ HasNodes shared known t 0

-- the expression stands at the place's node of the tree
abbrev pub IsIn : Expression → Place → Expression → Type 0
IsIn tree place t = IsSomeAnd (slice_get (nodes tree) place.node) (λ node. IsPart place.part node t)

-- the facts of the nodes of a tree were put after those that were there
pub record ArePut (shared : List Facts) (t : Expression) (before after : List NodeFacts) : Type 0 where
  pub longer : (more : List NodeFacts) × (after ≡ before ++ more) × (length more ≡ length (nodes t))
  pub nodes : HasNodes shared after t (length before)

-- the facts of a node over an expression with the facts at that number were put last
abbrev pub IsPutAbove : LogicOp → ℕ → List NodeFacts → List NodeFacts → Type 0
IsPutAbove op below before after = (k : NodeFacts) × (after ≡ before ++ k ∷ []) × IsSomeAnd (slice_get before below) (λ b. AreFactsAbove op b.facts k.facts)

-- and of a node over two
abbrev pub IsPutOver : LogicOp → ℕ → ℕ → List NodeFacts → List NodeFacts → Type 0
IsPutOver op left right before after =
    (k : NodeFacts) × (after ≡ before ++ k ∷ []) × (k.left ≡ left)
    × IsSomeAnd (slice_get before left) (λ b. IsSomeAnd (slice_get before right) (λ c. AreFactsOver op b.facts c.facts k.facts))

-- the facts of each node of each tree of a script, by the number of the tree and that of the node
pub record AreDagFacts (dag : Dag) (lent : List Facts) (trees : List (List NodeFacts)) : Type 0 where
  pub bound : IsBindable dag
  pub shared : AreSharedFacts dag lent
  pub each_one : length trees ≡ length (all_trees dag)
  pub facts : (i : ℕ) (t : Expression) → slice_get (all_trees dag) i ≡ Some t → IsSomeAnd (slice_get trees i) (λ known. HasNodes lent known t 0)
