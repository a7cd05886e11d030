-- The bags that stand for an expression.
use Rattle.std.specs.Prelude.{◌≡◌, ℕ, List, [], ◌++◌, map, filter, flat_map, slice_index_or, IsPermutation}
use Rattle.scope_expr.specs.Value.{holds}
use Rattle.user_ops.specs.Told.{Operators, processes_at}
use Rattle.logical_trees.specs.declared.logic_op.LogicOp.{LogicOp}
use Rattle.logical_trees.specs.declared.logic_op.LogicOp.TheVariants.{Scan, Ref, Filter, Project, Join, Group, Process, Reduce, Combine, Top, Partial, Finish, LocalTop, LastTop}
use Rattle.logical_trees.specs.Tree.{Expression, leaf, one, two, columns_of}
use Rattle.logical_trees.specs.Rows.{Bag, projected, joined, grouped, partial_rows, finished, reduced, combined, first_rows}

-- the rows that an expression draws on: those of each scan, and those of each shared result
pub record Sources : Type 0 where
  pub scans : List Bag
  pub shared : List Bag

-- the bag with that number, no rows where there is none
abbrev pub bag_at : List Bag → ℕ → Bag
bag_at bags i = slice_index_or bags i []

-- B stands for a node without children
abbrev pub GivesLeaf : Sources → LogicOp → Bag → Type 0
GivesLeaf from (Scan scan cols) B = IsPermutation (bag_at from.scans scan) B
GivesLeaf from (Ref shared cols) B = IsPermutation (bag_at from.shared shared) B
-- the other kinds have children
GivesLeaf from op B = ⊥

-- B stands for a node over an expression for which A stands, whose rows are over these columns
abbrev pub GivesOne : Operators → LogicOp → List ℕ → Bag → Bag → Type 0
GivesOne ops (Filter e) cols A B = IsPermutation (filter (holds e cols) A) B
GivesOne ops (Project items new) cols A B = IsPermutation (map (projected items cols) A) B
GivesOne ops (Group args) cols A B = IsPermutation (grouped args cols A) B
GivesOne ops (Process call) cols A B = IsPermutation (flat_map (processes_at ops call.op call.args) A) B
GivesOne ops (Reduce call on presort) cols A B = IsPermutation (reduced ops cols call on presort A) B
GivesOne ops (Top args) cols A B = IsPermutation (first_rows args cols A) B
-- A is divided into parts, and B has the partial rows of each
GivesOne ops (Partial args) cols A B =
    (parts : List Bag) × IsPermutation (flat_map (λ part. part) parts) A × IsPermutation (flat_map (partial_rows args cols) parts) B
GivesOne ops (Finish args) cols A B = IsPermutation (finished args cols A) B
-- B lies within A and has the first rows of A
GivesOne ops (LocalTop args) cols A B =
    (out rest : Bag) × IsPermutation (B ++ out) A × IsPermutation (first_rows args cols A ++ rest) B
GivesOne ops (LastTop args) cols A B = IsPermutation (first_rows args cols A) B
-- the other kinds have no child or two
GivesOne ops op cols A B = ⊥

-- C stands for a node over two expressions for which A and B stand
abbrev pub GivesTwo : Operators → LogicOp → List ℕ → List ℕ → Bag → Bag → Bag → Type 0
GivesTwo ops (Join on) left right A B C = IsPermutation (joined on.items left right A B) C
GivesTwo ops (Combine call on before beside) left right A B C = IsPermutation (combined ops left right call on.items before beside A B) C
-- the other kinds have fewer children
GivesTwo ops op left right A B C = ⊥

-- the bag stands for the expression
abbrev pub StandsFor : Operators → Sources → Expression → Bag → Type 0
StandsFor ops from (leaf op) B = GivesLeaf from op B
StandsFor ops from (one op t) B = (A : Bag) × StandsFor ops from t A × GivesOne ops op (columns_of t) A B
StandsFor ops from (two op t u) C = (A : Bag) × (B : Bag) × StandsFor ops from t A × StandsFor ops from u B × GivesTwo ops op (columns_of t) (columns_of u) A B C

-- rows of the same columns, and the same bags stand for both
pub record SameBags (t u : Expression) : Type 0 where
  pub columns : columns_of t ≡ columns_of u
  pub there : (ops : Operators) (from : Sources) (B : Bag) → StandsFor ops from t B → StandsFor ops from u B
  pub back : (ops : Operators) (from : Sources) (B : Bag) → StandsFor ops from u B → StandsFor ops from t B
