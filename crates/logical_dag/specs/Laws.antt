-- Facts of expressions hold of the bags that stand for them.
use Rattle.std.specs.Prelude.{ℕ, List, map, slice_get, IfSome, All}
use Rattle.col_sets.specs.Sets.{IsColumnSet}
use Rattle.fd_closure.specs.declared.facts.Facts.{Facts}
use Rattle.fd_closure.specs.Hold.{FactsHold}
use Rattle.user_ops.specs.Told.{Operators}
use Rattle.logical_trees.specs.Tree.{Expression, columns_of}
use Rattle.logical_trees.specs.Rows.{Bag}
use Rattle.logical_trees.specs.Meaning.{Sources, bag_at, StandsFor}
use Rattle.logical_trees.specs.RowsOver.{AreRowsOver}
use Rattle.logical_dag.specs.Facts.{AreFactsOf}
use Rattle.logical_trees.specs.Formed.{IsFormed}

-- the facts that are lent for the shared results hold of their bags
abbrev pub LentHold : List Facts → Sources → Type 0
LentHold shared from = (i : ℕ) → IfSome (slice_get shared i) (λ f. FactsHold f (bag_at from.shared i))

-- the columns of the shared results by their facts
abbrev pub lent_columns : List Facts → List (List ℕ)
lent_columns shared = map (λ f. f.columns) shared

-- the facts hold of each bag of rows over the expression's columns that stands for it, where those that are lent hold
abbrev pub HoldOf : List Facts → Expression → Facts → Type 0
HoldOf shared t f = (ops : Operators) (from : Sources) (A : Bag) → LentHold shared from → StandsFor ops from t A → AreRowsOver (columns_of t) A → FactsHold f A

-- the facts of an expression hold
abbrev pub DoFactsHold : Type 0
DoFactsHold = (shared : List Facts) (t : Expression) (f : Facts) → All IsColumnSet (lent_columns shared) → IsFormed (lent_columns shared) t → AreFactsOf shared t f → HoldOf shared t f
