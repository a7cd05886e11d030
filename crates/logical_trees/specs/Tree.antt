-- Expressions as trees, their nodes by number, and the columns of their rows.
use Rattle.std.specs.Prelude.{◌≡◌, ℕ, List, [], ◌∷◌, ◌++◌, map, length}
use Rattle.std.specs.List.{range_with_len}
use Rattle.col_sets.specs.Sets.{union}
use Rattle.logical_trees.specs.declared.args.GroupArgs.{GroupArgs}
use Rattle.logical_trees.specs.declared.logic_op.LogicOp.{LogicOp}
use Rattle.logical_trees.specs.declared.logic_op.LogicOp.TheVariants.{Scan, Ref, Project, Group, Process, Reduce, Combine, Partial, Finish}
use Rattle.logical_trees.specs.declared.logical.Logical.{Logical, fold-Logical}

-- a node with no child, one, or two
pub data Tree (A : Type 0) : Type 0 where
  leaf : A → Tree A
  one : A → Tree A → Tree A
  two : A → Tree A → Tree A → Tree A

-- a node over its children; those past the second are not read
abbrev pub node : {A : Type 0} → A → List (Tree A) → Tree A
node op [] = leaf op
node op (t ∷ []) = one op t
node op (t ∷ u ∷ more) = two op t u

-- an expression as a tree of operators
abbrev pub Expression : Type 0
Expression = Tree LogicOp

abbrev pub tree_of : Logical → Expression
tree_of = fold-Logical Expression (λ x. node x.op x.kids)

-- the nodes of a tree in post-order: a node's number is its place in this list
abbrev pub nodes : {A : Type 0} → Tree A → List (Tree A)
nodes (leaf op) = leaf op ∷ []
nodes (one op t) = nodes t ++ one op t ∷ []
nodes (two op t u) = nodes t ++ (nodes u ++ two op t u ∷ [])

-- the columns of a grouped row: the key's and those of the aggregates
abbrev pub group_columns : GroupArgs → List ℕ
group_columns args = union args.keys (map (λ a. a.id) args.aggs)

-- the columns of the rows of a node without children
abbrev pub leaf_columns : LogicOp → List ℕ
leaf_columns (Scan scan cols) = cols
leaf_columns (Ref shared cols) = cols
leaf_columns op = []

-- the columns of the rows of a node over rows of these columns
abbrev pub one_columns : LogicOp → List ℕ → List ℕ
one_columns (Project items cols) below = cols
one_columns (Group args) below = group_columns args
one_columns (Partial args) below = group_columns args
one_columns (Finish args) below = group_columns args
one_columns (Process call) below = call.cols
one_columns (Reduce call on presort) below = call.cols
one_columns op below = below

-- the columns of the rows of a node over rows of these columns on the left and on the right
abbrev pub two_columns : LogicOp → List ℕ → List ℕ → List ℕ
two_columns (Combine call on left right) below beside = call.cols
two_columns op below beside = union below beside

-- the columns of the rows of an expression, ascending
abbrev pub columns_of : Expression → List ℕ
columns_of (leaf op) = leaf_columns op
columns_of (one op t) = one_columns op (columns_of t)
columns_of (two op t u) = two_columns op (columns_of t) (columns_of u)

-- the columns that a node numbers afresh, in list order
abbrev pub fresh_columns : LogicOp → List ℕ
fresh_columns (Scan scan cols) = cols
fresh_columns (Ref shared cols) = cols
fresh_columns (Project items cols) = cols
fresh_columns (Group args) = map (λ a. a.id) args.aggs
fresh_columns (Process call) = call.cols
fresh_columns (Reduce call on presort) = call.cols
fresh_columns (Combine call on left right) = call.cols
fresh_columns op = []

-- the columns that a tree numbers, in post-order
abbrev pub numbered_columns : Expression → List ℕ
numbered_columns (leaf op) = fresh_columns op
numbered_columns (one op t) = numbered_columns t ++ fresh_columns op
numbered_columns (two op t u) = numbered_columns t ++ (numbered_columns u ++ fresh_columns op)

-- the columns of a tree are numbered from 0 in post-order
abbrev pub IsNumbered : Expression → Type 0
IsNumbered t = numbered_columns t ≡ range_with_len 0 (length (numbered_columns t))
