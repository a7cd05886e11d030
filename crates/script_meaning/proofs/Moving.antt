-- What reducers and combiners give over renumbered columns.
use Rattle.std.proofs.Common.{◌≡◌, ℕ, true, List, [], ◌∷◌, ◌++◌, map, filter, flat_map, refl, ap, ◌∙◌, Option, Some, None}
use Rattle.std.specs.Ordering.{eq_by_cmp}
use Rattle.scope_value.specs.Order.{row_cmp}
use Rattle.scope_value.specs.Keys.{keys_cmp}
use Rattle.scope_value.specs.Sorted.{sorted}
use Rattle.col_sets.specs.declared.dir.Dir.{Dir}
use Rattle.structural_props.specs.Rows.{key_of, items}
use Rattle.user_ops.specs.Told.{Operators, reduces_at, combines_at}
use Rattle.logical_trees.specs.declared.args.CallArgs.{CallArgs}
use Rattle.logical_trees.specs.Rows.{Row, Bag, with_key, keys_among, in_order, order_of, reduced, left_columns, right_columns, keys_of_both, combined}
use Rattle.list_lemmas.specs.Distinct.{distinct}
use Rattle.scope_expr.specs.Moved.{HasRanks}
use Rattle.column_ranks.specs.RowLemmas.{key_moved, items_moved}
use Rattle.script_meaning.specs.Part.{order_at}

-- renumbered pairs have the renumbered columns
lefts : (f g : ℕ → ℕ) (on : List (ℕ × ℕ)) → left_columns (map (λ p. (f p.0, g p.1)) on) ≡ map f (left_columns on)
lefts f g [] = refl
lefts f g (p ∷ on) = ap (λ l. f p.0 ∷ l) (lefts f g on)

rights : (f g : ℕ → ℕ) (on : List (ℕ × ℕ)) → right_columns (map (λ p. (f p.0, g p.1)) on) ≡ map g (right_columns on)
rights f g [] = refl
rights f g (p ∷ on) = ap (λ l. g p.1 ∷ l) (rights f g on)

module _ (f : ℕ → ℕ) (base cols : List ℕ) (h : HasRanks f base cols) where
  presort_moved : (presort : Option (List (ℕ × Dir))) → items cols (order_of (order_at f presort)) ≡ items base (order_of presort)
  presort_moved None = refl
  presort_moved (Some order) = items_moved f base cols h order

  pub sorted_key_moved : (presort : Option (List (ℕ × Dir))) (key other : List ℕ) → ((r : Row) → key_of cols key r ≡ key_of base other r) → (k : Row) (A : Bag)
      → in_order cols (order_of (order_at f presort)) (with_key cols key k A) ≡ in_order base (order_of presort) (with_key base other k A)
  sorted_key_moved presort key other same k A = (λ i. sorted (keys_cmp (presort_moved presort i) true) (filter (λ r. eq_by_cmp row_cmp k (same r i)) A))

  pub reduced_moved : (ops : Operators) (call : CallArgs) (on : List ℕ) (presort : Option (List (ℕ × Dir))) (A : Bag)
      → reduced ops cols call (map f on) (order_at f presort) A
      ≡ flat_map (λ k. reduces_at ops call.op call.args (in_order base (order_of presort) (with_key base on k A))) (keys_among base on A)
  reduced_moved ops call on presort A =
      (λ i. flat_map (λ k. reduces_at ops call.op call.args (sorted_key_moved presort (map f on) on (key_moved f base cols h on) k A i)) (distinct (map (λ r. key_moved f base cols h on r i) A)))

module _ (f g : ℕ → ℕ) (base cols base' cols' : List ℕ) (h : HasRanks f base cols) (k : HasRanks g base' cols') (on : List (ℕ × ℕ)) where
  left_key : (r : Row) → key_of cols (left_columns (map (λ p. (f p.0, g p.1)) on)) r ≡ key_of base (left_columns on) r
  left_key r = ap (λ key. key_of cols key r) (lefts f g on) ∙ key_moved f base cols h (left_columns on) r

  right_key : (r : Row) → key_of cols' (right_columns (map (λ p. (f p.0, g p.1)) on)) r ≡ key_of base' (right_columns on) r
  right_key r = ap (λ key. key_of cols' key r) (rights f g on) ∙ key_moved g base' cols' k (right_columns on) r

  pub combined_moved : (ops : Operators) (call : CallArgs) (before after : Option (List (ℕ × Dir))) (A B : Bag)
      → combined ops cols cols' call (map (λ p. (f p.0, g p.1)) on) (order_at f before) (order_at g after) A B
      ≡ flat_map
      (λ key. combines_at ops call.op call.args
      (in_order base (order_of before) (with_key base (left_columns on) key A))
      (in_order base' (order_of after) (with_key base' (right_columns on) key B)))
      (keys_of_both on base base' A B)
  combined_moved ops call before after A B =
      (λ i. flat_map
      (λ key. combines_at ops call.op call.args
      (sorted_key_moved f base cols h before (left_columns (map (λ p. (f p.0, g p.1)) on)) (left_columns on) left_key key A i)
      (sorted_key_moved g base' cols' k after (right_columns (map (λ p. (f p.0, g p.1)) on)) (right_columns on) right_key key B i))
      (distinct (map (λ r. left_key r i) A ++ map (λ r. right_key r i) B)))
