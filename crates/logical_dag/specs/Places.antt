-- Expressions of a script by number.
use Rattle.std.specs.Prelude.{◌≡◌, ℕ, List, take, length, slice_get, IfSome, IsSomeAnd}
use Rattle.fd_closure.specs.declared.facts.Facts.{Facts}
use Rattle.fd_closure.specs.Hold.{FactsHold}
use Rattle.user_ops.specs.Told.{Operators}
use Rattle.logical_dag.specs.declared.dag.Dag.{Dag}
use Rattle.logical_dag.specs.declared.place.Place.{Place}
use Rattle.logical_dag.specs.declared.place.PlacePart.{PlacePart}
use Rattle.logical_dag.specs.declared.place.PlacePart.TheVariants.{Whole, Leaves, Lower}
use Rattle.logical_trees.specs.declared.logic_op.LogicOp.TheVariants.{Join, Group, Top, Partial, LocalTop}
use Rattle.logical_trees.specs.Tree.{Expression, one, two, nodes, columns_of}
use Rattle.logical_trees.specs.Blocks.{block_leaves, block_pairs, chosen, IsJoinOf}
use Rattle.logical_trees.specs.Rows.{Bag}
use Rattle.logical_trees.specs.Meaning.{Sources, bag_at, StandsFor}
use Rattle.logical_trees.specs.RowsOver.{AreRowsOver}
use Rattle.logical_dag.specs.Facts.{AreFactsOf}
use Rattle.logical_dag.specs.Scripts.{shared_trees, all_trees}

-- the expression is that part of a node
abbrev pub IsPart : PlacePart → Expression → Expression → Type 0
IsPart Whole node t = node ≡ t
IsPart (Leaves mask) (two (Join on) u v) t = IsJoinOf (block_pairs (two (Join on) u v)) (chosen mask (block_leaves (two (Join on) u v))) t
IsPart Lower (one (Group args) u) t = one (Partial args) u ≡ t
IsPart Lower (one (Top args) u) t = one (LocalTop args) u ≡ t
IsPart part node t = ⊥

-- the expression stands at the place
abbrev pub IsAt : Dag → Place → Expression → Type 0
IsAt dag place t = IsSomeAnd (slice_get (all_trees dag) place.tree) (λ tree. IsSomeAnd (slice_get (nodes tree) place.node) (λ node. IsPart place.part node t))

-- these are the facts of the shared results, each by those of the earlier ones
pub record AreSharedFacts (dag : Dag) (shared : List Facts) : Type 0 where
  pub each_one : length shared ≡ length (shared_trees dag)
  pub facts : (i : ℕ) → IfSome (slice_get (shared_trees dag) i) (λ t. IsSomeAnd (slice_get shared i) (AreFactsOf (take i shared) t))

-- the facts are those of each expression at the place, by the facts of the shared results
abbrev pub AreFactsAt : Dag → Place → Facts → Type 0
AreFactsAt dag place f = (shared : List Facts) × AreSharedFacts dag shared × ((t : Expression) → IsAt dag place t → AreFactsOf shared t f)

-- the bag stands for the expression, and its rows are over the columns of this
abbrev pub StandsOver : Operators → Sources → Expression → Bag → Type 0
StandsOver ops from t A = StandsFor ops from t A × AreRowsOver (columns_of t) A

-- the bags of the shared results stand for their trees, whose columns their rows are over
abbrev pub SharedStand : Dag → Operators → Sources → Type 0
SharedStand dag ops from = (i : ℕ) → IfSome (slice_get (shared_trees dag) i) (λ t. StandsOver ops from t (bag_at from.shared i))

-- the facts hold of each such bag of an expression at the place
abbrev pub HoldAt : Dag → Place → Facts → Type 0
HoldAt dag place f = (ops : Operators) (from : Sources) (t : Expression) (A : Bag) → SharedStand dag ops from → IsAt dag place t → StandsOver ops from t A → FactsHold f A
