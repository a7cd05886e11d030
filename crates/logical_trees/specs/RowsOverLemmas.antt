-- The rows that each kind of node makes have one value for each column.
use Rattle.std.proofs.Common.{ℕ, true, List, ◌++◌, map, filter, take, length, ap, ◌∙◌, IsPermutation}
use Rattle.std.proofs.Math.ListN.{length-map}
use Rattle.std.proofs.lemmas.List.Sorted.{IsPermutation-sym}
use Rattle.col_sets.specs.Sets.{union}
use Rattle.scope_value.specs.declared.value.Value.{Value}
use Rattle.scope_expr.specs.Value.{holds}
use Rattle.scope_value.specs.Keys.{keys_cmp}
use Rattle.structural_props.specs.Actions.{In}
use Rattle.structural_props.specs.KeptLemmas.{in_left}
use Rattle.structural_props.specs.Rows.{items}
use Rattle.structural_props.specs.Stand.{in_filter}
use Rattle.user_ops.specs.Told.{Operators}
use Rattle.list_lemmas.specs.Members.{in_moved, in_map, in_flat_map, in_first, in_sorted}
use Rattle.logical_trees.specs.declared.agg.Agg.{Agg}
use Rattle.logical_trees.specs.declared.args.GroupArgs.{GroupArgs}
use Rattle.logical_trees.specs.declared.args.TopArgs.{TopArgs}
use Rattle.logical_trees.specs.declared.logic_op.LogicOp.{LogicOp}
use Rattle.logical_trees.specs.declared.logic_op.LogicOp.TheVariants.{Scan, Ref, Filter, Project, Join, Group, Process, Reduce, Combine, Top, Partial, Finish, LocalTop, LastTop}
use Rattle.logical_trees.specs.Tree.{Expression, leaf, one, two, group_columns, columns_of}
use Rattle.logical_trees.specs.Rows as rows
use Rattle.logical_trees.specs.Rows.{Row, Bag, projected, agree_on, merged, group_row, rows_of_keys, with_key, keys_among, group_keys, partial_value, partial_rows, whole_value, finished_value, in_order, first_rows}
use Rattle.logical_trees.specs.Meaning.{Sources, bag_at, StandsFor}
use Rattle.logical_trees.specs.Formed.{IsFormed}
use Rattle.logical_trees.specs.RowsOver.{AreRowsOver, AreGivenOver, HasRowsOver}

-- of a bag in another order
pub over_moved : (cols : List ℕ) (A B : Bag) → IsPermutation B A → AreRowsOver cols A → AreRowsOver cols B
over_moved cols A B p h r m = h r (in_moved r B A p m)

-- rows of groups
pub over_groups : (args : GroupArgs) (cols : List ℕ) (value_of : Agg → Bag → Value) (keys : List Row) (A : Bag) → AreRowsOver (group_columns args) (rows_of_keys args cols value_of keys A)
over_groups args cols value_of keys A r m =
    let o = in_map (λ k. group_row args (λ a. value_of a (with_key cols args.keys k A)) k) keys r m in
    ap length o.2 ∙ length-map (group_columns args) _

-- rows of a join
pub over_joined : (on : List (ℕ × ℕ)) (left right : List ℕ) (A B : Bag) → AreRowsOver (union left right) (rows.joined on left right A B)
over_joined on left right A B r m =
    let k = in_flat_map (λ r. map (merged left right r) (filter (agree_on on left right r) B)) A r m in
    let s = in_map (merged left right k.0) (filter (agree_on on left right k.0) B) r k.2 in
    ap length s.2 ∙ length-map (union left right) _

-- the first rows
over_first : (args : TopArgs) (cols : List ℕ) (A : Bag) → AreRowsOver cols A → AreRowsOver cols (first_rows args cols A)
over_first args cols A h r m = h r (in_sorted (keys_cmp (items cols args.order) true) A r (in_first args.n (in_order cols args.order A) r m))

module _ (ops : Operators) (from : Sources) (results : List (List ℕ)) where
  back : (cols : List ℕ) (A B : Bag) → IsPermutation A B → AreRowsOver cols A → AreRowsOver cols B
  back cols A B p h = over_moved cols A B (IsPermutation-sym A B p) h

  over : (t : Expression) (B : Bag) → IsFormed results t → AreGivenOver ops from t → StandsFor ops from t B → AreRowsOver (columns_of t) B
  over (leaf (Scan scan cols)) B f g h = back cols (bag_at from.scans scan) B h g
  over (leaf (Ref shared cols)) B f g h = back cols (bag_at from.shared shared) B h g
  over (leaf op) B f g h = absurd h
  over (one (Filter e) t) B f g h = back _ _ B h.2 (λ r m. over t h.0 f.0 g h.1 r (in_filter (holds e (columns_of t)) r h.0 m).0)
  over (one (Project es new) t) B f g h =
      back _ _ B h.2 (λ r m. let o = in_map (projected es (columns_of t)) h.0 r m in ap length o.2 ∙ length-map es _ ∙ f.1.1)
  over (one (Group args) t) B f g h = back _ _ B h.2 (over_groups args (columns_of t) (whole_value (columns_of t)) (group_keys (columns_of t) args.keys h.0) h.0)
  over (one (Finish args) t) B f g h = back _ _ B h.2 (over_groups args (columns_of t) (finished_value (columns_of t)) (group_keys (columns_of t) args.keys h.0) h.0)
  over (one (Partial args) t) B f g h =
      back _ _ B h.2.2 (λ r m. let o = in_flat_map (partial_rows args (columns_of t)) h.2.0 r m in
      over_groups args (columns_of t) (partial_value (columns_of t)) (keys_among (columns_of t) args.keys o.0) o.0 r o.2)
  over (one (Process call) t) B f g h = back _ _ B h.2 (g.1 h.0 h.1)
  over (one (Reduce call on presort) t) B f g h = back _ _ B h.2 (g.1 h.0 h.1)
  over (one (Top args) t) B f g h = back _ _ B h.2 (over_first args (columns_of t) h.0 (over t h.0 f.0 g h.1))
  over (one (LastTop args) t) B f g h = back _ _ B h.2 (over_first args (columns_of t) h.0 (over t h.0 f.0 g h.1))
  over (one (LocalTop args) t) B f g h = λ r m. over t h.0 f.0 g h.1 r (in_moved r (B ++ h.2.0) h.0 h.2.2 (in_left r B h.2.0 m))
  over (one op t) B f g h = absurd h.2
  over (two (Join on) t u) B f g h = back _ _ B h.4 (over_joined on.items (columns_of t) (columns_of u) h.0 h.1)
  over (two (Combine call on before beside) t u) B f g h = back _ _ B h.4 (g.2 h.0 h.1 h.2 h.3)
  over (two op t u) B f g h = absurd h.4

-- each row of a bag that stands for an expression is over its columns
pub rows_over : HasRowsOver
rows_over ops from results t A = over ops from results t A
