-- What a script means, statement by statement: no tree, no sharing, no number of a column.
use Rattle.std.specs.Prelude.{ℕ, ◌+◌, Bool, true, false, not, if◌then◌else◌, List, [], ◌∷◌, ◌++◌, map, filter, flat_map, length, Option, Some, None, slice_get}
use Rattle.std.specs.List.{range_with_len, list_any}
use Rattle.col_sets.specs.declared.dir.Dir.{Dir}
use Rattle.col_sets.specs.Sets.{has}
use Rattle.scope_value.specs.declared.value.Value.{Value}
use Rattle.script_trees.specs.declared.agg.AggKind.{AggKind}
use Rattle.scope_expr.specs.declared.expr.Expr.{Expr}
use Rattle.scope_expr.specs.Value.{holds}
use Rattle.user_ops.specs.Told.{Operators, processes_at, reduces_at, combines_at}
use Rattle.outer_joins.specs.declared.side.Side.{Side}
use Rattle.outer_joins.specs.OuterPairs.{keeps_left, keeps_right, nulls}
use Rattle.logical_trees.specs.Rows.{Row, Bag, projected, agree_on, with_key, keys_among, group_keys, whole_value, first_rows, in_order, order_of, left_columns, right_columns, keys_of_both}
use Rattle.column_ranks.specs.RowLemmas.{values}
use Rattle.placed_trees.specs.declared.call.Call.{Call}
use Rattle.placed_trees.specs.declared.command.Command.{Command}
use Rattle.placed_trees.specs.declared.command.Command.TheVariants.{Extract, Select, Process, Reduce, Combine, Output}
use Rattle.placed_trees.specs.declared.query.Beside.{Beside}
use Rattle.placed_trees.specs.declared.query.Beside.TheVariants.{Inners, Outer}
use Rattle.placed_trees.specs.declared.query.Grouping.{Grouping}
use Rattle.placed_trees.specs.declared.query.Joined.{Joined}
use Rattle.placed_trees.specs.declared.query.Query.{Query}
use Rattle.placed_trees.specs.declared.source.Source.{Source}
use Rattle.placed_trees.specs.declared.source.Source.TheVariants.{FromResult, FromStream}
use Rattle.placed_trees.specs.declared.source.StoredPlaces.{StoredPlaces}
use Rattle.placed_trees.specs.declared.source.Stream.{Stream}
use Rattle.placed_trees.specs.declared.statement.Statement.{Statement}
use Rattle.placed_trees.specs.Inputs.{input_at}

-- the columns by place
abbrev pub places : ℕ → List ℕ
places n = range_with_len 0 n

-- a result: how many columns, its rows as lists of their values, and its ORDER BY by place
pub record Table : Type 0 where
  pub width : ℕ
  pub order : Option (List (ℕ × Dir))
  pub rows : Bag

abbrev pub table : ℕ → Bag → Table
table n rows = record { width = n; order = None; rows = rows }

abbrev pub no_table : Table
no_table = table 0 []

-- the rows of which the predicate holds
abbrev pub where_rows : Expr → Table → Table
where_rows e A = table A.width (filter (holds e (places A.width)) A.rows)

abbrev pub where_opt : Option Expr → Table → Table
where_opt None A = table A.width A.rows
where_opt (Some e) A = where_rows e A

-- for each pair of rows that agree, the values of both
abbrev pub join_rows : List (ℕ × ℕ) → Table → Table → Table
join_rows on A B =
    table (A.width + B.width)
    (flat_map (λ r. map (λ s. values A.width r ++ values B.width s) (filter (agree_on on (places A.width) (places B.width) r) B.rows)) A.rows)

-- the places that are named, ascending
abbrev pub key_places : ℕ → List ℕ → List ℕ
key_places n written = filter (has written) (places n)

-- the value of an aggregate over rows of n columns
abbrev pub agg_value : ℕ → AggKind × Option Expr → Bag → Value
agg_value n g rows = whole_value (places n) (record { kind = g.0; arg = g.1; id = 0 }) rows

-- for each key its values and those of the aggregates over the rows that have it
abbrev pub group_rows : List ℕ → List (AggKind × Option Expr) → Table → Table
group_rows keys aggs A =
    table (length keys + length aggs)
    (map (λ k. values (length keys) k ++ map (λ g. agg_value A.width g (with_key (places A.width) keys k A.rows)) aggs)
    (group_keys (places A.width) keys A.rows))

abbrev pub group_opt : Option Grouping → Table → Table
group_opt None A = A
group_opt (Some g) A = group_rows (key_places A.width g.written) g.aggs A

-- the values of the items on each row
abbrev pub item_rows : List Expr → Table → Table
item_rows items A = table (length items) (map (projected items (places A.width)) A.rows)

-- each row once
abbrev pub distinct_opt : Bool → Table → Table
distinct_opt false A = A
distinct_opt true A = group_rows (places A.width) [] A

-- the first rows of the order, and all rows where there is no TOP; the order stays with the result
abbrev pub order_list : Option (List (ℕ × Dir)) → List (ℕ × Dir)
order_list None = []
order_list (Some order) = order

abbrev pub top_opt : Option ℕ → List (ℕ × Dir) → Table → Table
top_opt None order A = A
top_opt (Some n) order A = table A.width (first_rows (record { n = n; order = order }) (places A.width) A.rows)

abbrev pub with_order : Option (List (ℕ × Dir)) → Table → Table
with_order order A = record { width = A.width; order = order; rows = A.rows }

-- an ORDER BY has no effect on a stored OUTPUT
abbrev pub unless_stored : Option StoredPlaces → Option (List (ℕ × Dir)) → Option (List (ℕ × Dir))
unless_stored None order = order
unless_stored (Some stored) order = None

-- the result of an input among those of the statements before
abbrev pub or_no_table : Option Table → Table
or_no_table None = no_table
or_no_table (Some A) = A

abbrev pub result_at : List Table → Option ℕ → Table
result_at done None = no_table
result_at done (Some k) = or_no_table (slice_get done k)

-- the rows of a source
abbrev pub source_rows : (Stream → Bag) → List Statement → List Table → Source → Table
source_rows input earlier done (FromResult i) = result_at done (input_at earlier i)
source_rows input earlier done (FromStream d) = table (length d.schema) (input d)

-- the sources of a FROM, joined from the left
abbrev pub from_rows : (Stream → Bag) → List Statement → List Table → Table → List Joined → Table
from_rows input earlier done A [] = A
from_rows input earlier done A (j ∷ more) = from_rows input earlier done (join_rows j.on A (source_rows input earlier done j.source)) more

-- the pairs of rows that agree; the rows of the left that agree with none of the right, followed by nulls; and those of the
-- right that agree with none of the left, preceded by nulls
abbrev pub agreeing : (Row → Row → Bool) → Bag → Bag → Bag
agreeing alike A B = flat_map (λ r. map (λ s. r ++ s) (filter (alike r) B)) A

abbrev pub lone_left : (Row → Row → Bool) → ℕ → Bag → Bag → Bag
lone_left alike n A B = map (λ r. r ++ nulls n) (filter (λ r. not (list_any (alike r) B)) A)

abbrev pub lone_right : (Row → Row → Bool) → ℕ → Bag → Bag → Bag
lone_right alike m A B = map (λ s. nulls m ++ s) (filter (λ s. not (list_any (λ r. alike r s) A)) B)

abbrev pub outer_bag : Side → (Row → Row → Bool) → ℕ → ℕ → Bag → Bag → Bag
outer_bag side alike m n A B =
    agreeing alike A B ++ ((if keeps_left side then lone_left alike n A B else []) ++ (if keeps_right side then lone_right alike m A B else []))

abbrev pub outer_rows : Side → List (ℕ × ℕ) → Table → Table → Table
outer_rows side on A B = table (A.width + B.width) (outer_bag side (agree_on on (places A.width) (places B.width)) A.width B.width A.rows B.rows)

abbrev pub beside_rows : (Stream → Bag) → List Statement → List Table → Table → Beside → Table
beside_rows input earlier done A (Inners joins) = from_rows input earlier done A joins
beside_rows input earlier done A (Outer side call j) = outer_rows side j.on A (source_rows input earlier done j.source)

-- what a processor gives row by row
abbrev pub process_rows : Operators → Call → Table → Table
process_rows ops call A = table (length call.output) (flat_map (processes_at ops call.op call.args) A.rows)

-- what a reducer gives for the rows of each key, in the order of the presort
abbrev pub reduce_rows : Operators → List ℕ → Option (List (ℕ × Dir)) → Call → Table → Table
reduce_rows ops on presort call A =
    table (length call.output)
    (flat_map (λ k. reduces_at ops call.op call.args (in_order (places A.width) (order_of presort) (with_key (places A.width) on k A.rows))) (keys_among (places A.width) on A.rows))

-- what a combiner gives for the rows of each key on both sides, each side in the order of its presort
abbrev pub combine_rows : Operators → List (ℕ × ℕ) → Option (List (ℕ × Dir)) → Option (List (ℕ × Dir)) → Call → Table → Table → Table
combine_rows ops on before after call A B =
    table (length call.output)
    (flat_map
    (λ k. combines_at ops call.op call.args
    (in_order (places A.width) (order_of before) (with_key (places A.width) (left_columns on) k A.rows))
    (in_order (places B.width) (order_of after) (with_key (places B.width) (right_columns on) k B.rows)))
    (keys_of_both on (places A.width) (places B.width) A.rows B.rows))

-- FROM, WHERE, grouping, the items, HAVING, DISTINCT, TOP
abbrev pub query_rows : Query → Table → Table
query_rows q A =
    with_order q.order
    (top_opt q.top (order_list q.order) (distinct_opt q.distinct (where_opt q.having (item_rows q.items (group_opt q.group (where_opt q.test A))))))

-- the result of a command after these statements, whose results are given
abbrev pub result : Operators → (Stream → Bag) → List Statement → List Table → Command → Table
result ops input earlier done (Extract d) = table (length d.schema) (input d)
result ops input earlier done (Select q) = query_rows q (beside_rows input earlier done (source_rows input earlier done q.source) q.beside)
result ops input earlier done (Process source call) = process_rows ops call (source_rows input earlier done source)
result ops input earlier done (Reduce source on presort call) = reduce_rows ops on presort call (source_rows input earlier done source)
result ops input earlier done (Combine source before other after on call) =
    combine_rows ops on before after call (source_rows input earlier done source) (source_rows input earlier done other)
result ops input earlier done (Output w) = let A = result_at done (input_at earlier w.source) in with_order (unless_stored w.stored A.order) A

-- the results of all statements
abbrev pub results : Operators → (Stream → Bag) → List Statement → List Table → List Statement → List Table
results ops input earlier done [] = done
results ops input earlier done (s ∷ rest) = results ops input (earlier ++ s ∷ []) (done ++ result ops input earlier done s.command ∷ []) rest
