-- The text of a Dag, line by line.
use Rattle.std.specs.Prelude.{ℕ, ◌+◌, List, [], ◌∷◌, ◌++◌, map, Option, Some, None, codes, decimal}
use Rattle.std.specs.List.{join_with_byte}
use Rattle.col_sets.specs.declared.dir.Dir.{Dir}
use Rattle.scope_expr.specs.declared.expr.Expr.{Expr}
use Rattle.logical_trees.specs.declared.args.GroupArgs.{GroupArgs}
use Rattle.logical_trees.specs.declared.args.CallArgs.{CallArgs}
use Rattle.logical_trees.specs.declared.args.TopArgs.{TopArgs}
use Rattle.logical_trees.specs.declared.logic_op.LogicOp.{LogicOp}
use Rattle.logical_trees.specs.declared.logic_op.LogicOp.TheVariants.{Scan, Ref, Filter, Project, Join, Group, Process, Reduce, Combine, Top, Partial, Finish, LocalTop, LastTop}
use Rattle.logical_trees.specs.declared.logical.Logical.{Logical}
use Rattle.logical_trees.specs.Tree.{Expression, tree_of, nodes}
use Rattle.logical_trees.specs.Numbers.{child_numbers}
use Rattle.logical_dag.specs.declared.dag.ScanDecl.{ScanDecl}
use Rattle.logical_dag.specs.declared.dag.Output.{Output}
use Rattle.logical_dag.specs.declared.dag.Dag.{Dag}
use Rattle.logical_dag.specs.declared.dag.Stored.{Stored}
use Rattle.logical_dag.specs.Scripts.{top_of}
use Rattle.dag_text.specs.Pieces.{called_text, columns_text, order_text, presort_text, stored_text, pairs_text, schema_text, quoted, expression_text, items_text, aggregates_text, written_text}

-- the texts of things that are numbered one after the other, from a number on
abbrev pub lines : {X : Type 0} → (ℕ → X → List ℕ) → ℕ → List X → List ℕ
lines line n [] = []
lines line n (x ∷ xs) = line n x ++ lines line (n + 1) xs

-- ---- nodes

-- the columns that a node gives
abbrev pub given_text : List ℕ → List ℕ
given_text cols = codes " -> " ++ columns_text cols

abbrev pub group_text : GroupArgs → List ℕ
group_text args = (codes "written " ++ written_text args.written) ++ (codes " keys " ++ columns_text args.keys) ++ (codes " aggs " ++ aggregates_text args.aggs)

abbrev pub call_text : CallArgs → List ℕ
call_text call = called_text call.op call.args

abbrev pub top_text : TopArgs → List ℕ
top_text args = decimal args.n ++ codes " by " ++ order_text args.order

-- a node without children: its word, the number of what it reads, and its columns
abbrev pub leaf_text : List ℕ → ℕ → List ℕ → List ℕ
leaf_text word number cols = word ++ decimal number ++ given_text cols

abbrev pub filter_text : Expr → List ℕ
filter_text e = codes "filter " ++ expression_text e

abbrev pub project_text : List Expr → List ℕ → List ℕ
project_text items cols = codes "project " ++ items_text items ++ given_text cols

abbrev pub process_text : CallArgs → List ℕ
process_text call = (codes "process " ++ call_text call) ++ given_text call.cols

abbrev pub reduce_text : CallArgs → List ℕ → Option (List (ℕ × Dir)) → List ℕ
reduce_text call on presort = (codes "reduce " ++ call_text call) ++ (codes " on " ++ columns_text on) ++ (codes " presort " ++ presort_text presort) ++ given_text call.cols

abbrev pub combine_text : CallArgs → List (ℕ × ℕ) → Option (List (ℕ × Dir)) → Option (List (ℕ × Dir)) → List ℕ
combine_text call on left right =
    (codes "combine " ++ call_text call) ++ (codes " on " ++ pairs_text on) ++ (codes " left " ++ presort_text left) ++ (codes " right " ++ presort_text right) ++ given_text call.cols

-- what a node does
abbrev pub operator_line : LogicOp → List ℕ
operator_line (Scan scan cols) = leaf_text (codes "scan ") scan cols
operator_line (Ref shared cols) = leaf_text (codes "ref ") shared cols
operator_line (Filter e) = filter_text e
operator_line (Project items cols) = project_text items cols
operator_line (Join on) = codes "join " ++ pairs_text on.items
operator_line (Group args) = codes "group " ++ group_text args
operator_line (Process call) = process_text call
operator_line (Reduce call on presort) = reduce_text call on presort
operator_line (Combine call on left right) = combine_text call on.items left right
operator_line (Top args) = codes "top " ++ top_text args
-- the steps of a Group and of a Top, which no script has
operator_line (Partial args) = codes "partial " ++ group_text args
operator_line (Finish args) = codes "finish " ++ group_text args
operator_line (LocalTop args) = codes "localtop " ++ top_text args
operator_line (LastTop args) = codes "lasttop " ++ top_text args

-- the numbers of a node's children, where it has some
abbrev pub over_text : List ℕ → List ℕ
over_text [] = []
over_text (k ∷ kids) = codes " over " ++ join_with_byte 32 (map decimal (k ∷ kids))

-- the line of a node with this number, over children with these
abbrev pub node_text : LogicOp → ℕ → List ℕ → List ℕ
node_text op n kids = decimal n ++ codes " " ++ operator_line op ++ over_text kids ++ codes "\n"

abbrev pub node_line : ℕ → Expression → List ℕ
node_line n v = node_text (top_of v) n (child_numbers v n)

-- a tree, a line a node in post-order, numbered from 0
abbrev pub tree_text : Expression → List ℕ
tree_text t = lines node_line 0 (nodes t)

-- ---- the whole

-- a stream's number and name behind a word
abbrev pub stream_text : List ℕ → ℕ → List ℕ → List ℕ
stream_text word i name = word ++ decimal i ++ codes " " ++ quoted name

-- how a stream is stored, where it is declared
abbrev pub declared_text : Option Stored → List ℕ
declared_text None = []
declared_text (Some s) = stored_text s.hash s.sorted

-- and then the line's end
abbrev pub line_end : Option Stored → List ℕ
line_end stored = declared_text stored ++ codes "\n"

abbrev pub scan_line : ℕ → ScanDecl → List ℕ
scan_line i s = stream_text (codes "scan ") i s.stream ++ (codes " op " ++ called_text s.op s.args) ++ (codes " cols " ++ schema_text s.schema) ++ line_end s.stored

-- a shared tree behind its line
abbrev pub shared_lines : ℕ → Logical → List ℕ
shared_lines i t = codes "shared " ++ decimal i ++ codes "\n" ++ tree_text (tree_of t)

abbrev pub output_line : ℕ → Output → List ℕ
output_line i o = stream_text (codes "output ") i o.name ++ (codes " delimiter " ++ decimal o.delimiter) ++ (codes " order " ++ presort_text o.order) ++ line_end o.stored

-- an output's tree behind its line
abbrev pub output_lines : ℕ → Output → List ℕ
output_lines i o = output_line i o ++ tree_text (tree_of o.tree)

-- all scans, then the shared trees, then the outputs
abbrev pub dag_text : Dag → List ℕ
dag_text dag = lines scan_line 0 dag.scans ++ lines shared_lines 0 dag.shared ++ lines output_lines 0 dag.outputs
