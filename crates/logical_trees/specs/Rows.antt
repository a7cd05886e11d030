-- What the operators do with rows, in terms of whole lists.
use Rattle.std.specs.Prelude.{ℕ, ℤ, pos, ◌+ℤ◌, Bool, true, false, not, if◌then◌else◌, List, [], ◌∷◌, ◌++◌, map, filter, flat_map, find, take, count_by, nat_eq, Option, Some, None}
use Rattle.std.specs.Option.{option_map_or}
use Rattle.std.specs.List.{list_all}
use Rattle.std.specs.Ordering.{eq_by_cmp, flip_args}
use Rattle.std.specs.declared.cmp.Ordering.{Ordering}
use Rattle.scope_value.specs.declared.value.Value.{Value}
use Rattle.scope_value.specs.declared.value.Value.TheVariants as value
use Rattle.scope_value.specs.Order.{value_cmp, row_cmp, number}
use Rattle.scope_value.specs.Keys.{column, keys_cmp}
use Rattle.scope_value.specs.Sorted.{sorted}
use Rattle.col_sets.specs.declared.dir.Dir.{Dir}
use Rattle.col_sets.specs.Sets.{has, union}
use Rattle.structural_props.specs.Rows.{value_at, key_of, items}
use Rattle.script_trees.specs.declared.agg.AggKind.{AggKind}
use Rattle.script_trees.specs.declared.agg.AggKind.TheVariants.{Count, CountIf, Sum, Min, Max}
use Rattle.scope_expr.specs.declared.expr.Expr.{Expr}
use Rattle.scope_expr.specs.Value as expr
use Rattle.user_ops.specs.Told.{Operators, reduces_at, combines_at}
use Rattle.logical_trees.specs.declared.agg.Agg.{Agg}
use Rattle.logical_trees.specs.declared.args.GroupArgs.{GroupArgs}
use Rattle.logical_trees.specs.declared.args.CallArgs.{CallArgs}
use Rattle.logical_trees.specs.declared.args.TopArgs.{TopArgs}
use Rattle.list_lemmas.specs.Distinct.{distinct}
use Rattle.logical_trees.specs.Tree.{group_columns}

-- the values of a row by ascending column
abbrev pub Row : Type 0
Row = List Value

-- two lists of rows are one bag where one is the other in another order
abbrev pub Bag : Type 0
Bag = List Row

-- the row over some columns that has these values in them
abbrev pub row_over : List ℕ → (ℕ → Value) → Row
row_over cols value_in = map value_in cols

-- the values of the items on a row
abbrev pub projected : List Expr → List ℕ → Row → Row
projected items cols row = map (λ e. expr.value e cols row) items

-- two rows agree on all the pairs of columns; null agrees with null
abbrev pub agree_on : List (ℕ × ℕ) → List ℕ → List ℕ → Row → Row → Bool
agree_on on left right r s = list_all (λ p. eq_by_cmp value_cmp (value_at left r p.0) (value_at right s p.1)) on

-- both rows' values by ascending column
abbrev pub merged : List ℕ → List ℕ → Row → Row → Row
merged left right r s = row_over (union left right) (λ c. if has left c then value_at left r c else value_at right s c)

-- for each pair of rows that agree, both rows' values
abbrev pub joined : List (ℕ × ℕ) → List ℕ → List ℕ → Bag → Bag → Bag
joined on left right A B = flat_map (λ r. map (merged left right r) (filter (agree_on on left right r) B)) A

-- the rows that have these values in the columns of the key
abbrev pub with_key : List ℕ → List ℕ → Row → Bag → Bag
with_key cols key k rows = filter (λ r. eq_by_cmp row_cmp k (key_of cols key r)) rows

-- the keys of some rows, each once
abbrev pub keys_among : List ℕ → List ℕ → Bag → List Row
keys_among cols key rows = distinct (map (key_of cols key) rows)

-- the rows by some columns and then by all values
abbrev pub in_order : List ℕ → List (ℕ × Dir) → Bag → List Row
in_order cols order rows = sorted (keys_cmp (items cols order) true) rows

-- the first rows of an order
abbrev pub first_rows : TopArgs → List ℕ → Bag → Bag
first_rows args cols rows = take args.n (in_order cols args.order rows)

-- the value is not null
abbrev pub is_present : Value → Bool
is_present value.Null = false
is_present v = true

-- what an aggregate looks at on a row; COUNT(*) looks at nothing, and every row counts
abbrev pub argument : Option Expr → List ℕ → Row → Value
argument None cols row = value.Bool true
argument (Some e) cols row = expr.value e cols row

-- the exact sum of numbers and of partial sums
abbrev pub total : List Value → ℤ
total [] = pos 0
total (v ∷ vs) = number v +ℤ total vs

-- the exact sum of the values that are not null, null where there is none
abbrev pub summed : List Value → Value
summed vs = if nat_eq (count_by is_present vs) 0 then value.Null else value.Wide (total vs)

-- the first in an order of the values that are not null, null where there is none
abbrev pub first_in : (Value → Value → Ordering) → List Value → Value
first_in cmp vs = column 0 (sorted cmp (filter is_present vs))

-- what an aggregate makes of the values that it looks at, before counts and sums are brought to 64 bits
abbrev pub exact : AggKind → List Value → Value
exact Count vs = value.Int (pos (count_by is_present vs))
exact CountIf vs = value.Int (pos (count_by expr.is_true vs))
exact Sum vs = summed vs
exact Min vs = first_in value_cmp vs
exact Max vs = first_in (flip_args value_cmp) vs

-- what it makes of the partial values that it made of the parts: counts and sums are added
abbrev pub together : AggKind → List Value → Value
together Count vs = value.Int (total vs)
together CountIf vs = value.Int (total vs)
together kind vs = exact kind vs

-- a number of more than 64 bits is null
abbrev pub to_long : Value → Value
to_long value.Null = value.Null
to_long v = expr.or_null (expr.in_range (number v))

-- counts and sums are brought to 64 bits
abbrev pub fitted : AggKind → Value → Value
fitted Min v = v
fitted Max v = v
fitted kind v = to_long v

-- the partial value of an aggregate over the rows of a part
abbrev pub partial_value : List ℕ → Agg → Bag → Value
partial_value cols agg rows = exact agg.kind (map (argument agg.arg cols) rows)

-- the value of an aggregate over the rows of a group
abbrev pub whole_value : List ℕ → Agg → Bag → Value
whole_value cols agg rows = fitted agg.kind (partial_value cols agg rows)

-- its value of the partial rows of a group
abbrev pub finished_value : List ℕ → Agg → Bag → Value
finished_value cols agg rows = fitted agg.kind (together agg.kind (map (λ r. value_at cols r agg.id) rows))

-- the value of the aggregate that gives the column
abbrev pub agg_at : (Agg → Value) → List Agg → ℕ → Value
agg_at value_of aggs c = option_map_or value_of (find (λ a. nat_eq a.id c) aggs) value.Null

-- the row of a group: its key and its aggregates
abbrev pub group_row : GroupArgs → (Agg → Value) → Row → Row
group_row args value_of k = row_over (group_columns args) (λ c. if has args.keys c then value_at args.keys k c else agg_at value_of args.aggs c)

-- for each of these keys, the row of the rows that have it
abbrev pub rows_of_keys : GroupArgs → List ℕ → (Agg → Bag → Value) → List Row → Bag → Bag
rows_of_keys args cols value_of keys rows = map (λ k. group_row args (λ a. value_of a (with_key cols args.keys k rows)) k) keys

-- the keys of the groups; without columns to group by there is one group, also of no rows
abbrev pub group_keys : List ℕ → List ℕ → Bag → List Row
group_keys cols [] rows = [] ∷ []
group_keys cols (c ∷ key) rows = keys_among cols (c ∷ key) rows

-- a row for each group, with its aggregates
abbrev pub grouped : GroupArgs → List ℕ → Bag → Bag
grouped args cols rows = rows_of_keys args cols (whole_value cols) (group_keys cols args.keys rows) rows

-- a partial row for each key of a part
abbrev pub partial_rows : GroupArgs → List ℕ → Bag → Bag
partial_rows args cols rows = rows_of_keys args cols (partial_value cols) (keys_among cols args.keys rows) rows

-- a row for each group of partial rows, with its aggregates
abbrev pub finished : GroupArgs → List ℕ → Bag → Bag
finished args cols rows = rows_of_keys args cols (finished_value cols) (group_keys cols args.keys rows) rows

-- the columns of an order that may be left out
abbrev pub order_of : Option (List (ℕ × Dir)) → List (ℕ × Dir)
order_of None = []
order_of (Some order) = order

-- what the reducer gives for the rows of each key, in the order of the presort
abbrev pub reduced : Operators → List ℕ → CallArgs → List ℕ → Option (List (ℕ × Dir)) → Bag → Bag
reduced ops cols call on presort rows =
    flat_map (λ k. reduces_at ops call.op call.args (in_order cols (order_of presort) (with_key cols on k rows))) (keys_among cols on rows)

-- the columns of the pairs on the left
abbrev pub left_columns : List (ℕ × ℕ) → List ℕ
left_columns = map (λ p. p.0)

-- the columns of the pairs on the right
abbrev pub right_columns : List (ℕ × ℕ) → List ℕ
right_columns = map (λ p. p.1)

-- the keys that stand on at least one side
abbrev pub keys_of_both : List (ℕ × ℕ) → List ℕ → List ℕ → Bag → Bag → List Row
keys_of_both on left right A B = distinct (map (key_of left (left_columns on)) A ++ map (key_of right (right_columns on)) B)

-- what the combiner gives for the rows of each key on both sides, each side in the order of its presort
abbrev pub combined : Operators → List ℕ → List ℕ → CallArgs → List (ℕ × ℕ) → Option (List (ℕ × Dir)) → Option (List (ℕ × Dir)) → Bag → Bag → Bag
combined ops left right call on left_presort right_presort A B =
    flat_map
    (λ k. combines_at ops call.op call.args
    (in_order left (order_of left_presort) (with_key left (left_columns on) k A))
    (in_order right (order_of right_presort) (with_key right (right_columns on) k B)))
    (keys_of_both on left right A B)
