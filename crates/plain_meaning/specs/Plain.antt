-- What the plain program computes in steps.
use Rattle.std.specs.Prelude.{◌<◌, Bool, true, false, ℕ, List, length, map, filter, flat_map, Option, Vec, if◌then◌else◌}
use Rattle.std.proofs.Common.{Global}
use Rattle.col_sets.specs.declared.dir.Dir.{Dir}
use Rattle.col_sets.specs.Sets.{has}
use Rattle.structural_props.specs.Rows.{value_at}
use Rattle.user_ops.specs.Told.{Operators}
use Rattle.logical_trees.specs.declared.logic_op.LogicOp.{LogicOp}
use Rattle.logical_trees.specs.declared.logic_op.LogicOp.TheVariants.{Process, Reduce, Combine, Group, Top, Partial, Finish, LocalTop, LastTop}
use Rattle.logical_trees.specs.Tree.{Expression, leaf, one, two}
use Rattle.logical_trees.specs.Rows.{Row, Bag, row_over, agree_on, with_key, keys_among, in_order, order_of, left_columns, right_columns, keys_of_both}
use Rattle.logical_trees.specs.Meaning.{Sources}

-- the values of two rows in these columns, the left row's where it has the column
abbrev pub merged_over : List ℕ → List ℕ → List ℕ → Row → Row → Row
merged_over cols left right r s = row_over cols (λ c. if has left c then value_at left r c else value_at right s c)

-- a row with each row of the other side that agrees with it
abbrev pub partners : List (ℕ × ℕ) → List ℕ → List ℕ → List ℕ → Row → Bag → Bag
partners on left right cols r B = map (merged_over cols left right r) (filter (agree_on on left right r) B)

-- the pairs of rows that agree, over these columns
abbrev pub joined_over : List (ℕ × ℕ) → List ℕ → List ℕ → List ℕ → Bag → Bag → Bag
joined_over on left right cols A B = flat_map (λ r. partners on left right cols r B) A

-- the rows of a key, in the order of the presort
abbrev pub group_at : List ℕ → List ℕ → Option (List (ℕ × Dir)) → Bag → Row → Bag
group_at cols on presort rows k = in_order cols (order_of presort) (with_key cols on k rows)

-- what a function of groups gives for the rows of each key, in the order of the presort
abbrev pub reduced_by : (Bag → Bag) → List ℕ → List ℕ → Option (List (ℕ × Dir)) → Bag → Bag
reduced_by gives cols on presort rows = flat_map (λ k. gives (in_order cols (order_of presort) (with_key cols on k rows))) (keys_among cols on rows)

-- what a function of two groups gives for the rows of each key on both sides, each side in the order of its presort
abbrev pub combined_by : (Bag → Bag → Bag) → List ℕ → List ℕ → List (ℕ × ℕ) → Option (List (ℕ × Dir)) → Option (List (ℕ × Dir)) → Bag → Bag → Bag
combined_by gives left right on left_presort right_presort A B =
    flat_map
    (λ k. gives
    (in_order left (order_of left_presort) (with_key left (left_columns on) k A))
    (in_order right (order_of right_presort) (with_key right (right_columns on) k B)))
    (keys_of_both on left right A B)

-- the rows of each scan and of each shared result, by number
abbrev pub sources : List (Vec Row Global) → List (Vec Row Global) → Sources
sources scans shared = record { scans = map (λ v. v.items) scans; shared = map (λ v. v.items) shared }

-- a Group, a Top, or a step of either
abbrev pub is_step : LogicOp → Bool
is_step (Group args) = true
is_step (Top args) = true
is_step (Partial args) = true
is_step (Finish args) = true
is_step (LocalTop args) = true
is_step (LastTop args) = true
is_step op = false

-- the user operator that a node calls is there
abbrev pub IsThere : Operators → LogicOp → Type 0
IsThere ops (Process call) = call.op < length ops.processors
IsThere ops (Reduce call on presort) = call.op < length ops.reducers
IsThere ops (Combine call on left right) = call.op < length ops.combiners
IsThere ops op = Unit {0}

-- the user operators that an expression calls are there
abbrev pub AreThere : Operators → Expression → Type 0
AreThere ops (leaf op) = IsThere ops op
AreThere ops (one op t) = IsThere ops op × AreThere ops t
AreThere ops (two op t u) = IsThere ops op × AreThere ops t × AreThere ops u
