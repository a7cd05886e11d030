-- The targets of a tree, and the conditions that they make.
use Rattle.std.specs.Prelude.{ℕ, nat_eq, nat_lt, filter, Bool, true, false, ◌&&◌, ◌||◌, List, [], ◌∷◌, ◌++◌, map, flat_map, take, Option, Some, None}
use Rattle.col_sets.specs.declared.dir.Dir.{Dir}
use Rattle.col_sets.specs.declared.dir.Dir.TheVariants.{Up, Down}
use Rattle.logical_trees.specs.declared.logic_op.LogicOp.{LogicOp}
use Rattle.logical_trees.specs.declared.logic_op.LogicOp.TheVariants.{Join, Group, Reduce, Combine, Top}
use Rattle.logical_trees.specs.Tree.{Expression, nodes}
use Rattle.logical_trees.specs.Rows.{order_of, left_columns, right_columns}
use Rattle.logical_dag.specs.Scripts.{top_of}
use Rattle.parts_nodes.specs.Tables.{ups}
use Rattle.parts_plans.specs.Kinds.{PlanKind, Site, in_one_part, hash_join, merge_join, combine, hash_any, hash_merge, range_any, sort, broadcast, Stream}
use Rattle.rules_tables.specs.Tables.{op_at}
use Rattle.rules_space.specs.declared.kind.Kind.{Kind}

abbrev pub Order : Type 0
Order = List (ℕ × Dir)

-- the lists by which rows may be hashed, sorted (and whether all values come after these columns) and cut, how many copies there
-- may be, and the ON lists
pub record Targets : Type 0 where
  pub hash : List (List ℕ)
  pub sorts : List (Order × Bool)
  pub range : List Order
  pub copies : List ℕ
  pub ons : List (List (ℕ × ℕ))

-- a list, and each column of it
abbrev pub and_each : List ℕ → List (List ℕ)
and_each cols = cols ∷ map (λ c. c ∷ []) cols

abbrev pub hash_targets : LogicOp → List (List ℕ)
hash_targets (Group args) = at args.written
  where
    -- without a list it is a DISTINCT, or has no key
    at : Option (List ℕ) → List (List ℕ)
    at (Some cols) = and_each cols
    at None = first args.keys
      where
        first : List ℕ → List (List ℕ)
        first [] = []
        first (c ∷ keys) = take 4 (c ∷ keys) ∷ []
hash_targets (Join on) = and_each (left_columns on.items) ++ and_each (right_columns on.items)
hash_targets (Reduce call on presort) = and_each on
hash_targets (Combine call on left right) = and_each (left_columns on.items) ++ and_each (right_columns on.items)
hash_targets op = []

-- up by a list, and by each column of it
abbrev pub ups_each : List ℕ → List (Order × Bool)
ups_each cols = (ups cols [], false) ∷ map (λ c. (ups (c ∷ []) [], false)) cols

abbrev pub sort_targets : LogicOp → List (Order × Bool)
sort_targets (Group args) = at args.written
  where
    at : Option (List ℕ) → List (Order × Bool)
    at (Some cols) = (ups cols [], false) ∷ []
    at None = first args.keys
      where
        first : List ℕ → List (Order × Bool)
        first [] = []
        first (c ∷ keys) = ([], true) ∷ []
sort_targets (Join on) = ups_each (left_columns on.items) ++ ups_each (right_columns on.items)
sort_targets (Reduce call on presort) = (ups on (order_of presort), true) ∷ []
sort_targets (Combine call on left right) = (ups (left_columns on.items) (order_of left), true) ∷ (ups (right_columns on.items) (order_of right), true) ∷ []
sort_targets (Top args) = (args.order, true) ∷ []
sort_targets op = []

abbrev pub range_targets : LogicOp → List Order
range_targets (Top args) = args.order ∷ []
range_targets op = []

abbrev pub on_lists : LogicOp → List (List (ℕ × ℕ))
on_lists (Join on) = on.items ∷ []
on_lists op = []

-- the order of an output is one more target
abbrev pub order_sorts : Order → List (Order × Bool)
order_sorts [] = []
order_sorts (x ∷ order) = (x ∷ order, true) ∷ []

abbrev pub order_ranges : Order → List Order
order_ranges [] = []
order_ranges (x ∷ order) = (x ∷ order) ∷ []

-- as many copies as an exchange makes parts, or as a stream has parts, where at least 2
abbrev pub copy_targets : ℕ → List Stream → List ℕ
copy_targets parts streams = filter (nat_lt 1) (parts ∷ map (λ s. s.parts) streams)

-- the targets of a tree, whose output has this order, where so many copies may be made
abbrev pub targets_of : List ℕ → Expression → Order → Targets
targets_of copies tree order = record {
  hash = flat_map (λ t. hash_targets (top_of t)) (nodes tree);
  sorts = flat_map (λ t. sort_targets (top_of t)) (nodes tree) ++ order_sorts order;
  range = flat_map (λ t. range_targets (top_of t)) (nodes tree) ++ order_ranges order;
  copies = copies;
  ons = flat_map (λ t. on_lists (top_of t)) (nodes tree);
}

-- ---- tests

abbrev pub same_list : {X : Type 0} → (X → X → Bool) → List X → List X → Bool
same_list same [] [] = true
same_list same [] (y ∷ ys) = false
same_list same (x ∷ xs) [] = false
same_list same (x ∷ xs) (y ∷ ys) = same x y && same_list same xs ys

abbrev pub is_among : {X : Type 0} → (X → X → Bool) → X → List X → Bool
is_among same x [] = false
is_among same x (y ∷ ys) = same x y || is_among same x ys

abbrev pub same_dir : Dir → Dir → Bool
same_dir Up Up = true
same_dir Up Down = false
same_dir Down Up = false
same_dir Down Down = true

abbrev pub same_key : ℕ × Dir → ℕ × Dir → Bool
same_key a b = nat_eq a.0 b.0 && same_dir a.1 b.1

abbrev pub same_flag : Bool → Bool → Bool
same_flag true b = b
same_flag false true = false
same_flag false false = true

abbrev pub same_sort : Order × Bool → Order × Bool → Bool
same_sort a b = same_list same_key a.0 b.0 && same_flag a.1 b.1

abbrev pub same_pair : ℕ × ℕ → ℕ × ℕ → Bool
same_pair a b = nat_eq a.0 b.0 && nat_eq a.1 b.1

-- the same pair, or turned round
abbrev pub same_turned : ℕ × ℕ → ℕ × ℕ → Bool
same_turned a b = same_pair a b || (nat_eq a.0 b.1 && nat_eq a.1 b.0)

abbrev pub is_single : {X : Type 0} → List X → Bool
is_single (x ∷ []) = true
is_single xs = false

-- ---- conditions

-- which nodes a plan may have: by the kind of the plan's node, and the kind of the node of its group
pub record Conditions : Type 0 where
  pub one : PlanKind → Kind → Bool
  pub two : PlanKind → Kind → Bool
  pub enforcer : PlanKind → Bool

abbrev pub is_target : Targets → PlanKind → Bool
is_target X (hash_any key) = is_among (same_list nat_eq) key X.hash
is_target X (hash_merge key keys rest) = is_among (same_list nat_eq) key X.hash
is_target X (range_any keys) = is_among (same_list same_key) keys X.range
is_target X (sort keys rest) = is_among same_sort (keys, rest) X.sorts
is_target X (broadcast copies) = is_among nat_eq copies X.copies
is_target X k = true

-- one equality, or all of one ON in written order, each with the left column first
abbrev pub are_join_keys : Targets → List (ℕ × ℕ) → Bool
are_join_keys X keys = is_single keys || is_among (same_list same_turned) keys X.ons

-- the whole list, or in hashed parts one pair of it
abbrev pub are_combine_keys : Site → LogicOp → List (ℕ × ℕ) → Bool
are_combine_keys in_one_part (Combine call on left right) keys = same_list same_pair keys on.items
are_combine_keys site (Combine call on left right) keys = same_list same_pair keys on.items || is_single keys
are_combine_keys site op keys = false

abbrev pub has_keys : Targets → Expression → PlanKind → Kind → Bool
has_keys X tree (hash_join site keys) q = are_join_keys X keys
has_keys X tree (merge_join site keys) q = are_join_keys X keys
has_keys X tree (combine site keys) q = are_combine_keys site (op_at tree q) keys
has_keys X tree k q = true

abbrev pub conditions_of : List ℕ → Expression → Order → Conditions
conditions_of copies tree order = record { one = λ k q. true; two = has_keys (targets_of copies tree order) tree; enforcer = is_target (targets_of copies tree order) }
