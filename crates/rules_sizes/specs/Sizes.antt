-- Estimates: how many rows an expression has, and how many values each column.
use Rattle.std.specs.Prelude.{ℕ, ◌+◌, ◌*◌, ◌/◌, min, max, nat_le, Bool, false, ◌&&◌, ◌||◌, if◌then◌else◌, List, [], ◌∷◌, ◌++◌, slice_get, Option, Some, None}
use Rattle.col_sets.specs.Sets.{has, rank, union}
use Rattle.script_trees.specs.declared.op.PairOp.TheVariants.{And, Eq}
use Rattle.scope_expr.specs.declared.expr.Expr.{Expr, end_of-Expr, more_of-Expr}
use Rattle.scope_expr.specs.declared.expr.Expr.TheVariants.{Literal, Col, Pair'}
use Rattle.logical_trees.specs.declared.logic_op.LogicOp.{LogicOp}
use Rattle.logical_trees.specs.declared.logic_op.LogicOp.TheVariants.{Scan, Ref, Filter, Project, Join, Group, Process, Reduce, Top, Partial, Finish, LocalTop, LastTop}
use Rattle.logical_trees.specs.Tree.{Expression, leaf, one, two, leaf_columns, one_columns, two_columns}
use Rattle.logical_trees.specs.Blocks.{block_pairs}
use Rattle.rules_shapes.specs.Shapes.{Shape, size}
use Rattle.rules_space.specs.Tree as shape
use Rattle.rules_space.specs.declared.kind.Kind.{Kind}
use Rattle.rules_space.specs.declared.kind.Kind.TheVariants as kind
use Rattle.rules_space.specs.Place.{Place, place}

-- what is known of an expression: the number of its node, its columns, the estimate of its rows, how many values each column has
-- (not yet bounded by any estimate), and the estimate of what a Finish or LastTop over it makes
pub record Size : Type 0 where
  pub number : ℕ
  pub columns : List ℕ
  pub rows : ℕ
  pub distinct : ℕ → ℕ
  pub finished : ℕ

-- what is declared: the rows of each scan, the values of each of its columns by place, the number of partitions; and the sizes of
-- the shared results
pub record Sizes : Type 0 where
  pub rows : ℕ → ℕ
  pub distinct : ℕ → ℕ → ℕ
  pub parts : ℕ
  pub shared : List Size

-- the greatest estimate, 2^60
unfoldable pub greatest : ℕ
greatest = 1152921504606846976

-- brought between 1 and the greatest
unfoldable pub bounded : ℕ → ℕ
bounded n = max 1 (min n greatest)

-- a column's values where it is used: at most the estimate there
abbrev pub values_at : Size → ℕ → ℕ
values_at x c = min (x.distinct c) x.rows

-- ---- nodes without children

abbrev pub shared_rows : Option Size → ℕ
shared_rows None = 1
shared_rows (Some x) = x.rows

-- the values of the column at a place among the columns of the shared result
abbrev pub shared_values : Option Size → ℕ → ℕ
shared_values None i = 1
shared_values (Some x) i = at (slice_get x.columns i)
  where
    at : Option ℕ → ℕ
    at None = 1
    at (Some c) = x.distinct c

abbrev pub leaf_rows : Sizes → LogicOp → ℕ
leaf_rows Z (Scan scan cols) = bounded (Z.rows scan)
leaf_rows Z (Ref shared cols) = bounded (shared_rows (slice_get Z.shared shared))
leaf_rows Z op = 1

abbrev pub leaf_values : Sizes → LogicOp → ℕ → ℕ
leaf_values Z (Scan scan cols) c = Z.distinct scan (rank cols c)
leaf_values Z (Ref shared cols) c = shared_values (slice_get Z.shared shared) (rank cols c)
leaf_values Z op c = 1

abbrev pub leaf_size : Sizes → ℕ → LogicOp → Size
leaf_size Z n op = record { number = n; columns = leaf_columns op; rows = leaf_rows Z op; distinct = leaf_values Z op; finished = leaf_rows Z op }

-- ---- nodes with one child

-- the conjuncts of a predicate in order, its `&&` taken apart
abbrev pub conjuncts : Expr → List Expr
conjuncts (Pair' And s (more_of-Expr a end_of-Expr) t (more_of-Expr b end_of-Expr)) = conjuncts a ++ conjuncts b
conjuncts e = e ∷ []

-- what a conjunct divides by: the values of c for `c == literal`, either way round, and 3 otherwise
abbrev pub side_values : Size → Expr → Expr → ℕ
side_values x (Col c kind) (Literal v) = values_at x c
side_values x (Literal v) (Col c kind) = values_at x c
side_values x a b = 3

abbrev pub divisor : Size → Expr → ℕ
divisor x (Pair' Eq s (more_of-Expr a end_of-Expr) t (more_of-Expr b end_of-Expr)) = side_values x a b
divisor x e = 3

abbrev pub divided : Size → ℕ → List Expr → ℕ
divided x r [] = r
divided x r (e ∷ more) = divided x (r / divisor x e) more

-- the product of the values of these columns
abbrev pub product_of : Size → List ℕ → ℕ
product_of x [] = 1
product_of x (c ∷ cols) = values_at x c * product_of x cols

-- a Group by these keys
abbrev pub group_rows : Size → List ℕ → ℕ
group_rows x [] = 1
group_rows x (c ∷ keys) = bounded (min x.rows (product_of x (c ∷ keys)))

abbrev pub one_rows : Sizes → LogicOp → Size → ℕ
one_rows Z (Filter e) x = bounded (divided x x.rows (conjuncts e))
one_rows Z (Group args) x = group_rows x args.keys
one_rows Z (Partial args) x = bounded (min x.rows (Z.parts * group_rows x args.keys))
one_rows Z (Finish args) x = x.finished
one_rows Z (Top args) x = bounded (min args.n x.rows)
one_rows Z (LocalTop args) x = bounded (min x.rows (Z.parts * args.n))
one_rows Z (LastTop args) x = x.finished
one_rows Z op x = x.rows

-- what a Finish or LastTop over it makes, which is what the Group or Top would make
abbrev pub one_finished : Sizes → LogicOp → Size → ℕ
one_finished Z (Partial args) x = group_rows x args.keys
one_finished Z (LocalTop args) x = bounded (min args.n x.rows)
one_finished Z op x = one_rows Z op x

-- the values of an item: those of the column where it is a plain one
abbrev pub item_values : Size → Option Expr → ℕ
item_values x (Some (Col d kind)) = x.distinct d
item_values x e = x.rows

-- a column of a node over one child: handed on, renamed, or fresh with as many values as the node has rows
abbrev pub one_values : Sizes → LogicOp → Size → ℕ → ℕ
one_values Z (Project items cols) x c = item_values x (slice_get items (rank cols c))
one_values Z (Group args) x c = if has args.keys c then x.distinct c else one_rows Z (Group args) x
one_values Z (Partial args) x c = if has args.keys c then x.distinct c else one_rows Z (Partial args) x
one_values Z (Finish args) x c = if has args.keys c then x.distinct c else x.finished
one_values Z (Process call) x c = x.rows
one_values Z (Reduce call on presort) x c = x.rows
one_values Z op x c = x.distinct c

abbrev pub one_size : Sizes → ℕ → LogicOp → Size → Size
one_size Z n op x = record { number = n; columns = one_columns op x.columns; rows = one_rows Z op x; distinct = one_values Z op x; finished = one_finished Z op x }

-- ---- a Combine: the sum of both; all its columns are fresh

abbrev pub two_size : Sizes → ℕ → LogicOp → Size → Size → Size
two_size Z n op x y = record {
  number = n;
  columns = two_columns op x.columns y.columns;
  rows = bounded (x.rows + y.rows);
  distinct = λ c. bounded (x.rows + y.rows);
  finished = bounded (x.rows + y.rows);
}

-- ---- joins, leaf by leaf

-- whether one of these has the column, and its values at the first that has it
abbrev pub any_has : List Size → ℕ → Bool
any_has [] c = false
any_has (x ∷ xs) c = has x.columns c || any_has xs c

abbrev pub leaf_values_at : List Size → ℕ → ℕ
leaf_values_at [] c = 1
leaf_values_at (x ∷ xs) c = if has x.columns c then values_at x c else leaf_values_at xs c

abbrev pub raw_values : ℕ → List Size → ℕ → ℕ
raw_values r [] c = r
raw_values r (x ∷ xs) c = if has x.columns c then x.distinct c else raw_values r xs c

-- an equality has just become inside where it has one column in the next leaf and one in those before
abbrev pub is_new : List Size → Size → ℕ × ℕ → Bool
is_new before x p = (any_has before p.0 && has x.columns p.1) || (any_has before p.1 && has x.columns p.0)

-- divided for each, in written order, by the greater number of values of its two columns at their leaves
abbrev pub join_divided : List Size → Size → List (ℕ × ℕ) → ℕ → ℕ
join_divided before x [] r = r
join_divided before x (p ∷ pairs) r =
    join_divided before x pairs (if is_new before x p then r / max (leaf_values_at (before ++ x ∷ []) p.0) (leaf_values_at (before ++ x ∷ []) p.1) else r)

abbrev pub join_rows : List (ℕ × ℕ) → List Size → ℕ → List Size → ℕ
join_rows pairs before r [] = r
join_rows pairs before r (x ∷ more) = join_rows pairs (before ++ x ∷ []) (bounded (join_divided before x pairs (r * x.rows))) more

abbrev pub all_columns : List Size → List ℕ
all_columns [] = []
all_columns (x ∷ xs) = union x.columns (all_columns xs)

abbrev pub join_size_by : ℕ → List Size → Size
join_size_by r leaves = record { number = 0; columns = all_columns leaves; rows = r; distinct = raw_values r leaves; finished = r }

-- the join of these leaves, one of which is the leaf itself
abbrev pub join_size : List (ℕ × ℕ) → List Size → Size
join_size pairs [] = join_size_by 1 []
join_size pairs (x ∷ []) = x
join_size pairs (x ∷ y ∷ more) = join_size_by (join_rows pairs (x ∷ []) x.rows (y ∷ more)) (x ∷ y ∷ more)

-- ---- the expressions of a script

-- the leaves of the block at the top, from the left, where the nodes are numbered in post-order from base on
abbrev pub leaf_sizes : Sizes → ℕ → Expression → List Size
leaf_sizes Z base (leaf op) = leaf_size Z base op ∷ []
leaf_sizes Z base (one op t) = one_size Z (base + size t) op (join_size (block_pairs t) (leaf_sizes Z base t)) ∷ []
leaf_sizes Z base (two (Join on) t u) = leaf_sizes Z base t ++ leaf_sizes Z (base + size t) u
leaf_sizes Z base (two op t u) =
    two_size Z (base + (size t + size u)) op (join_size (block_pairs t) (leaf_sizes Z base t)) (join_size (block_pairs u) (leaf_sizes Z (base + size t) u)) ∷ []

abbrev pub size_of : Sizes → ℕ → Expression → Size
size_of Z base t = join_size (block_pairs t) (leaf_sizes Z base t)

-- ---- what steps reach

-- by ascending number
abbrev pub put_in : Size → List Size → List Size
put_in x [] = x ∷ []
put_in x (y ∷ ys) = if nat_le x.number y.number then x ∷ y ∷ ys else y ∷ put_in x ys

abbrev pub by_number : List Size → List Size
by_number [] = []
by_number (x ∷ xs) = put_in x (by_number xs)

abbrev pub node_number : Kind → ℕ
node_number (kind.Node n) = n
node_number kind.Join = 0
node_number (kind.Partial n) = n
node_number (kind.Finish n) = n

-- the leaves of the joins at the top of an expression of this shape, in the order in which they stand; a join below takes its leaves by
-- ascending number, and divides by the equalities of the block at its place
abbrev pub shape_sizes : Sizes → (Place → List (ℕ × ℕ)) → Expression → Shape → List Size
shape_sizes Z pairs (leaf op) (shape.leaf k) = leaf_size Z (node_number k) op ∷ []
shape_sizes Z pairs (one op t) (shape.one k s) = one_size Z (node_number k) op (join_size (pairs (place s)) (by_number (shape_sizes Z pairs t s))) ∷ []
shape_sizes Z pairs (two (Join on) t u) (shape.two k r s) = shape_sizes Z pairs t r ++ shape_sizes Z pairs u s
shape_sizes Z pairs (two op t u) (shape.two k r s) =
    two_size Z (node_number k) op (join_size (pairs (place r)) (by_number (shape_sizes Z pairs t r))) (join_size (pairs (place s)) (by_number (shape_sizes Z pairs u s))) ∷ []
shape_sizes Z pairs t s = []

-- the size of an expression of this shape
abbrev pub reached_size : Sizes → (Place → List (ℕ × ℕ)) → Expression → Shape → Size
reached_size Z pairs t s = join_size (pairs (place s)) (by_number (shape_sizes Z pairs t s))
