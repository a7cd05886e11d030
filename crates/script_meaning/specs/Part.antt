-- Trees whose scans and columns may be numbered from anywhere.
use Rattle.std.specs.Prelude.{ℕ, ◌+◌, Bool, true, false, List, [], ◌∷◌, ◌++◌, map, length, get_or, Option, Some, None, option_map}
use Rattle.std.specs.List.{range_with_len}
use Rattle.col_sets.specs.declared.dir.Dir.{Dir}
use Rattle.script_trees.specs.declared.agg.AggKind.{AggKind}
use Rattle.scope_expr.specs.declared.expr.Expr.{Expr}
use Rattle.logical_trees.specs.declared.agg.Agg.{Agg}
use Rattle.logical_dag.specs.declared.dag.Stored.{Stored}
use Rattle.logical_trees.specs.declared.logic_op.LogicOp.{LogicOp}
use Rattle.logical_trees.specs.declared.logic_op.LogicOp.TheVariants.{Scan, Ref, Filter, Project, Join, Group, Process, Reduce, Combine, Top}
use Rattle.logical_trees.specs.Tree.{Expression, leaf, one, two}
use Rattle.logical_trees.specs.declared.args.CallArgs.{CallArgs}
use Rattle.scope_expr.specs.Moved.{moved}
use Rattle.placed_trees.specs.declared.call.Call.{Call}
use Rattle.placed_trees.specs.declared.query.Grouping.{Grouping}
use Rattle.placed_trees.specs.declared.query.Query.{Query}
use Rattle.placed_trees.specs.declared.source.StoredPlaces.{StoredPlaces}
use Rattle.placed_trees.specs.declared.source.Stream.{Stream}
use Rattle.script_meaning.specs.Meaning.{key_places, order_list, unless_stored}

-- A bound expression, before it is known where it will stand. `tree name s c` is the tree where shared results have these
-- names, its scans are numbered from s in post-order and its columns from c in post-order. `cols` are the columns of its
-- rows, by place, where the numbers begin at 0; `count` is how many columns it numbers; `order` is the ORDER BY of its
-- statement and `stored` how an OUTPUT stores it, both by place; `scans` are its scans and `refs` the statements whose
-- shared results it refers to.
pub record Part : Type 0 where
  pub cols : List ℕ
  pub count : ℕ
  pub order : Option (List (ℕ × Dir))
  pub stored : Option StoredPlaces
  pub scans : List Stream
  pub refs : List ℕ
  pub tree : (ℕ → ℕ) → ℕ → ℕ → Expression

-- the columns of its rows where the numbers begin at c
abbrev pub cols_at : Part → ℕ → List ℕ
cols_at a c = map (λ p. c + p) a.cols

-- the column at a place where the numbers begin at c, one past all columns where there is none
abbrev pub number : Part → ℕ → ℕ → ℕ
number a c p = c + get_or a.cols p 128

-- what stands for an input that is not there: no rows
abbrev pub nothing : Part
nothing = record {
  cols = [];
  count = 0;
  order = None;
  stored = None;
  scans = [];
  refs = [];
  tree = λ name s c. one (Top (record { n = 0; order = [] })) (leaf (Ref 0 []));
}

abbrev pub scanned : Stream → Part
scanned d = record {
  cols = range_with_len 0 (length d.schema);
  count = length d.schema;
  order = None;
  stored = None;
  scans = d ∷ [];
  refs = [];
  tree = λ name s c. leaf (Scan s (range_with_len c (length d.schema)));
}

abbrev pub referred : ℕ → Part → Part
referred k b = record {
  cols = range_with_len 0 (length b.cols);
  count = length b.cols;
  order = b.order;
  stored = None;
  scans = [];
  refs = k ∷ [];
  tree = λ name s c. leaf (Ref (name k) (range_with_len c (length b.cols)));
}

-- a node over the part
abbrev pub over : Part → List ℕ → ℕ → (ℕ → LogicOp) → Part
over a cols count op = record { cols = cols; count = count; order = None; stored = None; scans = a.scans; refs = a.refs; tree = λ name s c. one (op c) (a.tree name s c) }

abbrev pub same_part : Part → Part
same_part a = record { cols = a.cols; count = a.count; order = None; stored = None; scans = a.scans; refs = a.refs; tree = a.tree }

abbrev pub join_on : Part → Part → List (ℕ × ℕ) → ℕ → LogicOp
join_on a b on c = Join (record { items = map (λ p. (number a c p.0, number b (c + a.count) p.1)) on })

-- the right part stands behind the left one
abbrev pub joined_part : List (ℕ × ℕ) → Part → Part → Part
joined_part on a b = record {
  cols = a.cols ++ map (λ p. a.count + p) b.cols;
  count = a.count + b.count;
  order = None;
  stored = None;
  scans = a.scans ++ b.scans;
  refs = a.refs ++ b.refs;
  tree = λ name s c. two (join_on a b on c) (a.tree name s c) (b.tree name (s + length a.scans) (c + a.count));
}

-- the call with the numbers of the columns that it gives
abbrev pub call_at : Call → ℕ → CallArgs
call_at call c = record { op = call.op; args = call.args; cols = range_with_len c (length call.output); output = call.output }

abbrev pub order_at : (ℕ → ℕ) → Option (List (ℕ × Dir)) → Option (List (ℕ × Dir))
order_at f = option_map (map (λ k. (f k.0, k.1)))

abbrev pub process_part : Call → Part → Part
process_part call a = over a (range_with_len a.count (length call.output)) (a.count + length call.output) (λ c. Process (call_at call (c + a.count)))

abbrev pub reduce_part : List ℕ → Option (List (ℕ × Dir)) → Call → Part → Part
reduce_part on presort call a =
    over a (range_with_len a.count (length call.output)) (a.count + length call.output)
    (λ c. Reduce (call_at call (c + a.count)) (map (number a c) on) (order_at (number a c) presort))

abbrev pub combine_on : Part → Part → List (ℕ × ℕ) → Option (List (ℕ × Dir)) → Option (List (ℕ × Dir)) → Call → ℕ → LogicOp
combine_on a b on before after call c =
    Combine (call_at call (c + a.count + b.count)) (record { items = map (λ p. (number a c p.0, number b (c + a.count) p.1)) on }) (order_at (number a c) before) (order_at (number b (c + a.count)) after)

abbrev pub combine_part : List (ℕ × ℕ) → Option (List (ℕ × Dir)) → Option (List (ℕ × Dir)) → Call → Part → Part → Part
combine_part on before after call a b = record {
  cols = range_with_len (a.count + b.count) (length call.output);
  count = a.count + b.count + length call.output;
  order = None;
  stored = None;
  scans = a.scans ++ b.scans;
  refs = a.refs ++ b.refs;
  tree = λ name s c. two (combine_on a b on before after call c) (a.tree name s c) (b.tree name (s + length a.scans) (c + a.count));
}

abbrev pub filter_part : Expr → Part → Part
filter_part e a = over a a.cols a.count (λ c. Filter (moved (number a c) e))

abbrev pub filter_opt : Option Expr → Part → Part
filter_opt None a = same_part a
filter_opt (Some e) a = filter_part e a

-- aggregates, numbered from e
abbrev pub numbered : (ℕ → ℕ) → ℕ → List (AggKind × Option Expr) → List Agg
numbered f e [] = []
numbered f e (g ∷ aggs) = record { kind = g.0; arg = option_map (moved f) g.1; id = e } ∷ numbered f (e + 1) aggs

abbrev pub group_part : Option (List ℕ) → List ℕ → List (AggKind × Option Expr) → Part → Part
group_part written keys aggs a =
    over a (map (number a 0) keys ++ range_with_len a.count (length aggs)) (a.count + length aggs)
    (λ c. Group (record { written = option_map (map (number a c)) written; keys = map (number a c) keys; aggs = numbered (number a c) (c + a.count) aggs }))

-- the list of GROUP BY, where there is one
abbrev pub listed : List ℕ → Option (List ℕ)
listed [] = None
listed (c ∷ written) = Some (c ∷ written)

abbrev pub grouping_opt : Option Grouping → Part → Part
grouping_opt None a = a
grouping_opt (Some g) a = group_part (listed g.written) (key_places (length a.cols) g.written) g.aggs a

abbrev pub project_part : List Expr → Part → Part
project_part items a =
    over a (range_with_len a.count (length items)) (a.count + length items) (λ c. Project (map (moved (number a c)) items) (range_with_len (c + a.count) (length items)))

abbrev pub unique_opt : Bool → Part → Part
unique_opt false a = a
unique_opt true a = group_part None (range_with_len 0 (length a.cols)) [] a

abbrev pub first_opt : Option ℕ → List (ℕ × Dir) → Part → Part
first_opt None order a = a
first_opt (Some n) order a = over a a.cols a.count (λ c. Top (record { n = n; order = map (λ k. (number a c k.0, k.1)) order }))

abbrev pub ordered : Option (List (ℕ × Dir)) → Part → Part
ordered order a = record { cols = a.cols; count = a.count; order = order; stored = None; scans = a.scans; refs = a.refs; tree = a.tree }

-- the node of a SELECT over its sources
abbrev pub query_part : Query → Part → Part
query_part q a =
    ordered q.order
    (first_opt q.top (order_list q.order) (unique_opt q.distinct (filter_opt q.having (project_part q.items (grouping_opt q.group (filter_opt q.test a))))))

-- a declaration by place, in columns
abbrev pub stored_at : (ℕ → ℕ) → Option StoredPlaces → Option Stored
stored_at f = option_map (λ s. record { hash = map f s.hash; sorted = order_at f s.sorted })

-- the part as an OUTPUT stores it
abbrev pub stored_part : Option StoredPlaces → Part → Part
stored_part stored a = record a { order = unless_stored stored a.order; stored = stored }
