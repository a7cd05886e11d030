-- Rows that have one value for each of their columns.
use Rattle.std.specs.Prelude.{ℕ, List, flat_map}
use Rattle.structural_props.specs.Actions.{In}
use Rattle.structural_props.specs.Rows.{IsRowOver}
use Rattle.user_ops.specs.Told.{Operators, processes_at}
use Rattle.logical_trees.specs.declared.logic_op.LogicOp.TheVariants.{Scan, Ref, Process, Reduce, Combine}
use Rattle.logical_trees.specs.Tree.{Expression, leaf, one, two, columns_of}
use Rattle.logical_trees.specs.Rows.{Row, Bag, reduced, combined}
use Rattle.logical_trees.specs.Meaning.{Sources, bag_at, StandsFor}
use Rattle.logical_trees.specs.Formed.{IsFormed}

-- each row is over the columns
abbrev pub AreRowsOver : List ℕ → Bag → Type 0
AreRowsOver cols rows = (r : Row) → In r rows → IsRowOver cols r

-- what comes from outside is over the columns that the expression numbers for it: the rows of the scans and of the shared
-- results, and those that user operators give for the bags that they are called on
abbrev pub AreGivenOver : Operators → Sources → Expression → Type 0
AreGivenOver ops from (leaf (Scan scan cols)) = AreRowsOver cols (bag_at from.scans scan)
AreGivenOver ops from (leaf (Ref shared cols)) = AreRowsOver cols (bag_at from.shared shared)
AreGivenOver ops from (leaf op) = Unit {0}
AreGivenOver ops from (one (Process call) t) =
    AreGivenOver ops from t × ((A : Bag) → StandsFor ops from t A → AreRowsOver call.cols (flat_map (processes_at ops call.op call.args) A))
AreGivenOver ops from (one (Reduce call on presort) t) =
    AreGivenOver ops from t × ((A : Bag) → StandsFor ops from t A → AreRowsOver call.cols (reduced ops (columns_of t) call on presort A))
AreGivenOver ops from (one op t) = AreGivenOver ops from t
AreGivenOver ops from (two (Combine call on before beside) t u) =
    AreGivenOver ops from t × AreGivenOver ops from u
    × ((A B : Bag) → StandsFor ops from t A → StandsFor ops from u B → AreRowsOver call.cols (combined ops (columns_of t) (columns_of u) call on.items before beside A B))
AreGivenOver ops from (two op t u) = AreGivenOver ops from t × AreGivenOver ops from u

-- then each row of a bag that stands for a formed expression has one value for each column
abbrev pub HasRowsOver : Type 0
HasRowsOver = (ops : Operators) (from : Sources) (results : List (List ℕ)) (t : Expression) (A : Bag) → IsFormed results t → AreGivenOver ops from t
    → StandsFor ops from t A → AreRowsOver (columns_of t) A
