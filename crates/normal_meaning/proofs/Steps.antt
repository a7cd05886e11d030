-- Each step of a conjunct keeps the bags.
use Rattle.std.proofs.Common.{◌≡◌, ℕ, Bool, true, false, cond, List, [], ◌∷◌, map, filter, refl, sym, ap, ap₂, ◌∙◌, inl, inr, subst, IsPermutation}
use Rattle.std.proofs.lemmas.List.Sorted.{IsPermutation-refl, IsPermutation-trans, IsPermutation-map}
use Rattle.col_sets.specs.Sets.{has, union, IsColumnSet}
use Rattle.col_sets.specs.Columns.{filter-filter, columns_where-set, has_below, has_union}
use Rattle.col_sets.specs.Tests.{both}
use Rattle.structural_props.specs.Rows.{value_at, key_of}
use Rattle.script_trees.specs.declared.op.PairOp.TheVariants.{And}
use Rattle.scope_expr.specs.declared.expr.Expr.{Expr}
use Rattle.scope_expr.specs.declared.expr.Expr.TheVariants.{Pair}
use Rattle.scope_expr.specs.Value.{holds}
use Rattle.logical_trees.specs.declared.args.GroupArgs.{GroupArgs}
use Rattle.logical_trees.specs.declared.logic_op.LogicOp.{LogicOp}
use Rattle.logical_trees.specs.declared.logic_op.LogicOp.TheVariants.{Filter, Project, Join, Group}
use Rattle.logical_trees.specs.Tree.{Expression, one, two, one_columns, two_columns, group_columns, columns_of}
use Rattle.logical_trees.specs.Rows.{Row, Bag, projected, agree_on, merged, joined, with_key, keys_among, whole_value, group_row, group_keys, grouped}
use Rattle.list_lemmas.specs.Distinct.{distinct, is_row, row_is}
use Rattle.logical_trees.specs.Meaning.{GivesOne, GivesTwo, StandsFor, SameBags}
use Rattle.logical_trees.specs.Formed.{IsGroup, IsOneFormed, IsTwoFormed}
use Rattle.list_lemmas.specs.Bags.{same_permuted, filter_permuted, filters_turned}
use Rattle.logical_trees.specs.GroupLemmas.{grouped_permuted, joined_permuted}
use Rattle.logical_trees.specs.GroupRowLemmas.{group_row-key}
use Rattle.logical_trees.specs.RowLemmas.{value_over}
use Rattle.logical_trees.specs.SameLemmas.{same_itself, same_turned, same_then, same_below, same_beside}
use Rattle.normal_meaning.specs.Sinking.{is_keyed, passes, below, goes_to}
use Rattle.normal_meaning.proofs.Values.{holds_same, holds_below}
use Rattle.scope_expr.specs.Moved.{each_column}
use Rattle.scope_expr.specs.ValueLemmas.{holds_and}
use Rattle.normal_meaning.proofs.Lists.{filter_made, made_same, filter_right, filter_left, distinct_passes, filter_within}

-- ---- over one child

-- two steps give the bags of two others that are the same together
module _ (S : Bag → Type 0) (F G H K : Bag → Bag) (keeps : (A B : Bag) → IsPermutation A B → IsPermutation (F A) (F B)) (same : (A : Bag) → F (G A) ≡ H (K A)) where
  steps : (C : Bag) → ((B : Bag) × ((A : Bag) × S A × IsPermutation (G A) B) × IsPermutation (F B) C) → (B : Bag) × ((A : Bag) × S A × IsPermutation (K A) B) × IsPermutation (H B) C
  steps C w = (K w.1.0, (w.1.0, w.1.1, IsPermutation-refl _), IsPermutation-trans _ _ _ (same_permuted _ _ (sym (same w.1.0))) (IsPermutation-trans _ _ _ (keeps _ _ w.1.2) w.2))

-- two Filters change places
pub filters_same : (f e : Expr) (t : Expression) → SameBags (one (Filter e) (one (Filter f) t)) (one (Filter f) (one (Filter e) t))
filters_same f e t = record {
  columns = refl;
  there = λ ops from C w.
      steps (StandsFor ops from t) by_e by_f by_f by_e (filter_permuted (holds e (columns_of t))) (filters_turned (holds e (columns_of t)) (holds f (columns_of t))) C w;
  back = λ ops from C w.
      steps (StandsFor ops from t) by_f by_e by_e by_f (filter_permuted (holds f (columns_of t))) (filters_turned (holds f (columns_of t)) (holds e (columns_of t))) C w;
}
  where
    by_e : Bag → Bag
    by_e = filter (holds e (columns_of t))

    by_f : Bag → Bag
    by_f = filter (holds f (columns_of t))

-- two Filters are one, the lower one's conjuncts first
pub filters_joined : (f e : Expr) (t : Expression) → SameBags (one (Filter e) (one (Filter f) t)) (one (Filter (Pair And f e)) t)
filters_joined f e t = record {
  columns = refl;
  there = λ ops from C w.
      (w.1.0, w.1.1, IsPermutation-trans _ _ _ (same_permuted _ _ (sym (as_one w.1.0))) (IsPermutation-trans _ _ _ (filter_permuted (holds e (columns_of t)) _ _ w.1.2) w.2));
  back = λ ops from C w.
      (filter (holds f (columns_of t)) w.0, (w.0, w.1, IsPermutation-refl _), IsPermutation-trans _ _ _ (same_permuted _ _ (as_one w.0)) w.2);
}
  where
    as_one : (A : Bag) → filter (holds e (columns_of t)) (filter (holds f (columns_of t)) A) ≡ filter (holds (Pair And f e) (columns_of t)) A
    as_one A = filter-filter (holds e (columns_of t)) (holds f (columns_of t)) A ∙ (λ i. filter (λ r. sym (holds_and f e (columns_of t) r) i) A)

-- a filter of groups by their keys is a filter of the rows
module _ (args : GroupArgs) (formed : IsGroup args) (cols : List ℕ) (e : Expr) (keyed : is_keyed args.keys ≡ true) (every : each_column (has args.keys) e ≡ true) where
  -- the row of the group of a key
  abbrev row_of : Bag → Row → Row
  row_of A k = group_row args (λ a. whole_value cols a (with_key cols args.keys k A)) k

  keys_are : (A : Bag) → group_keys cols args.keys A ≡ keys_among cols args.keys A
  keys_are A = go args.keys keyed
    where
      go : (keys : List ℕ) → is_keyed keys ≡ true → group_keys cols keys A ≡ keys_among cols keys A
      go [] h = absurd (cc)
      go (c ∷ keys) h = refl

  of_key : (r : Row) → holds e args.keys (key_of cols args.keys r) ≡ holds e cols r
  of_key r = holds_same (has args.keys) args.keys cols (key_of cols args.keys r) r (λ c h. value_over args.keys (value_at cols r) c formed.key_set h) e every

  of_row : (A : Bag) (k : Row) → holds e (group_columns args) (row_of A k) ≡ holds e args.keys k
  of_row A k = holds_same (has args.keys) (group_columns args) args.keys (row_of A k) k (group_row-key args formed (λ a. whole_value cols a (with_key cols args.keys k A)) k) e every

  -- the rows that have a key for which it holds pass
  rows_of_key : (A : Bag) (k : Row) → holds e args.keys k ≡ true → with_key cols args.keys k A ≡ with_key cols args.keys k (filter (holds e cols) A)
  rows_of_key A k h =
      sym (filter_within (λ r. is_row k (key_of cols args.keys r)) (holds e cols)
      (λ r m. sym (of_key r) ∙ sym (ap (holds e args.keys) (row_is k (key_of cols args.keys r) m)) ∙ h) A)

  pub groups_filtered : (A : Bag) → filter (holds e (group_columns args)) (grouped args cols A) ≡ grouped args cols (filter (holds e cols) A)
  groups_filtered A =
      ap (λ ks. filter (holds e (group_columns args)) (map (row_of A) ks)) (keys_are A)
      ∙ filter_made (holds e (group_columns args)) (holds e args.keys) (row_of A) (of_row A) (keys_among cols args.keys A)
      ∙ made_same (holds e args.keys) (row_of A) (row_of (filter (holds e cols) A)) (λ k h. ap (λ B. group_row args (λ a. whole_value cols a B) k) (rows_of_key A k h)) (keys_among cols args.keys A)
      ∙ ap (map (row_of (filter (holds e cols) A)))
      (distinct_passes (holds e args.keys) (map (key_of cols args.keys) A)
      ∙ ap distinct (filter_made (holds e args.keys) (holds e cols) (key_of cols args.keys) of_key A)
      ∙ sym (keys_are (filter (holds e cols) A)))

-- a conjunct that passes a node may stand below it
pub passed_same : (op : LogicOp) (t : Expression) (e : Expr) → IsOneFormed (columns_of t) op → passes op e ≡ true → SameBags (one (Filter e) (one op t)) (one op (one (Filter (below op e)) t))
passed_same (Project items new) t e f h = record {
  columns = refl;
  there = λ ops from C w.
      steps (StandsFor ops from t) (filter (holds e new)) (map (projected items (columns_of t))) (map (projected items (columns_of t))) (filter (holds (below (Project items new) e) (columns_of t)))
      (filter_permuted (holds e new)) same C w;
  back = λ ops from C w.
      steps (StandsFor ops from t) (map (projected items (columns_of t))) (filter (holds (below (Project items new) e) (columns_of t))) (filter (holds e new)) (map (projected items (columns_of t)))
      (IsPermutation-map (projected items (columns_of t))) (λ A. sym (same A)) C w;
}
  where
    same : (A : Bag) → filter (holds e new) (map (projected items (columns_of t)) A) ≡ map (projected items (columns_of t)) (filter (holds (below (Project items new) e) (columns_of t)) A)
    same A = filter_made (holds e new) (holds (below (Project items new) e) (columns_of t)) (projected items (columns_of t)) (λ r. sym (holds_below items new (columns_of t) r e h)) A
passed_same (Group args) t e f h = record {
  columns = refl;
  there = λ ops from C w.
      steps (StandsFor ops from t) (filter (holds e (group_columns args))) (grouped args (columns_of t)) (grouped args (columns_of t)) (filter (holds e (columns_of t)))
      (filter_permuted (holds e (group_columns args))) same C w;
  back = λ ops from C w.
      steps (StandsFor ops from t) (grouped args (columns_of t)) (filter (holds e (columns_of t))) (filter (holds e (group_columns args))) (grouped args (columns_of t))
      (grouped_permuted args (columns_of t)) (λ A. sym (same A)) C w;
}
  where
    same : (A : Bag) → filter (holds e (group_columns args)) (grouped args (columns_of t) A) ≡ grouped args (columns_of t) (filter (holds e (columns_of t)) A)
    same A = let parts = both (is_keyed args.keys) (each_column (has args.keys) e) h in groups_filtered args f.0 (columns_of t) e parts.0 parts.1 A
passed_same op t e f h = absurd (cc)

-- ---- over two children

module _ (on : List (ℕ × ℕ)) (left right : List ℕ) (e : Expr) (left_set : IsColumnSet left) (right_set : IsColumnSet right) (apart : (c : ℕ) → has left c ≡ true → has right c ≡ true → ⊥) where
  in_left : (r s : Row) (c : ℕ) → has left c ≡ true → value_at (union left right) (merged left right r s) c ≡ value_at left r c
  in_left r s c h =
      value_over (union left right) (λ d. cond (has left d) (value_at left r d) (value_at right s d)) c (columns_where-set _) (has_union left right c (has_below left left_set c h) (inl h))
      ∙ ap (λ b. cond b (value_at left r c) (value_at right s c)) h

  in_right : (r s : Row) (c : ℕ) → has right c ≡ true → value_at (union left right) (merged left right r s) c ≡ value_at right s c
  in_right r s c h =
      value_over (union left right) (λ d. cond (has left d) (value_at left r d) (value_at right s d)) c (columns_where-set _) (has_union left right c (has_below right right_set c h) (inr h))
      ∙ ap (λ b. cond b (value_at left r c) (value_at right s c)) (other (has left c) refl)
    where
      other : (b : Bool) → has left c ≡ b → has left c ≡ false
      other true k = absurd (apart c k h)
      other false k = k

  pub joined_left : each_column (has left) e ≡ true → (A B : Bag) → filter (holds e (union left right)) (joined on left right A B) ≡ joined on left right (filter (holds e left) A) B
  joined_left every A B =
      filter_left (holds e (union left right)) (holds e left) (merged left right) (λ r. filter (agree_on on left right r) B)
      (λ r s. holds_same (has left) (union left right) left (merged left right r s) r (in_left r s) e every) A

  pub joined_right : each_column (has right) e ≡ true → (A B : Bag) → filter (holds e (union left right)) (joined on left right A B) ≡ joined on left right A (filter (holds e right) B)
  joined_right every A B =
      filter_right (holds e (union left right)) (holds e right) (merged left right) (agree_on on left right)
      (λ r s. holds_same (has right) (union left right) right (merged left right r s) s (in_right r s) e every) A B

-- a conjunct that names columns of one side alone may stand over that side
pub left_same : (on : _) (t u : Expression) (e : Expr) → IsColumnSet (columns_of t) → IsColumnSet (columns_of u) → IsTwoFormed (columns_of t) (columns_of u) (Join on) → goes_to (Join on) (columns_of t) e ≡ true
    → SameBags (one (Filter e) (two (Join on) t u)) (two (Join on) (one (Filter e) t) u)
left_same on t u e left_set right_set join h = record {
  columns = refl;
  there = λ ops from D w. (
    filter (holds e (columns_of t)) w.1.0,
    w.1.1,
    (w.1.0, w.1.2, IsPermutation-refl _),
    w.1.3,
    IsPermutation-trans _ _ _ (same_permuted _ _ (sym (same w.1.0 w.1.1))) (IsPermutation-trans _ _ _ (filter_permuted (holds e (union (columns_of t) (columns_of u))) _ _ w.1.4) w.2),
  );
  back = λ ops from D w. (
    joined on.items (columns_of t) (columns_of u) w.2.0 w.1,
    (w.2.0, w.1, w.2.1, w.3, IsPermutation-refl _),
    IsPermutation-trans _ _ _ (same_permuted _ _ (same w.2.0 w.1))
        (IsPermutation-trans _ _ _ (joined_permuted on.items (columns_of t) (columns_of u) _ _ w.1 w.1 w.2.2 (IsPermutation-refl _)) w.4),
  );
}
  where
    same : (A B : Bag) → filter (holds e (union (columns_of t) (columns_of u))) (joined on.items (columns_of t) (columns_of u) A B) ≡ joined on.items (columns_of t) (columns_of u) (filter (holds e (columns_of t)) A) B
    same = joined_left on.items (columns_of t) (columns_of u) e left_set right_set join.apart h

pub right_same : (on : _) (t u : Expression) (e : Expr) → IsColumnSet (columns_of t) → IsColumnSet (columns_of u) → IsTwoFormed (columns_of t) (columns_of u) (Join on) → goes_to (Join on) (columns_of u) e ≡ true
    → SameBags (one (Filter e) (two (Join on) t u)) (two (Join on) t (one (Filter e) u))
right_same on t u e left_set right_set join h = record {
  columns = refl;
  there = λ ops from D w. (
    w.1.0,
    filter (holds e (columns_of u)) w.1.1,
    w.1.2,
    (w.1.1, w.1.3, IsPermutation-refl _),
    IsPermutation-trans _ _ _ (same_permuted _ _ (sym (same w.1.0 w.1.1))) (IsPermutation-trans _ _ _ (filter_permuted (holds e (union (columns_of t) (columns_of u))) _ _ w.1.4) w.2),
  );
  back = λ ops from D w. (
    joined on.items (columns_of t) (columns_of u) w.0 w.3.0,
    (w.0, w.3.0, w.2, w.3.1, IsPermutation-refl _),
    IsPermutation-trans _ _ _ (same_permuted _ _ (same w.0 w.3.0))
        (IsPermutation-trans _ _ _ (joined_permuted on.items (columns_of t) (columns_of u) w.0 w.0 _ _ (IsPermutation-refl _) w.3.2) w.4),
  );
}
  where
    same : (A B : Bag) → filter (holds e (union (columns_of t) (columns_of u))) (joined on.items (columns_of t) (columns_of u) A B) ≡ joined on.items (columns_of t) (columns_of u) A (filter (holds e (columns_of u)) B)
    same = joined_right on.items (columns_of t) (columns_of u) e left_set right_set join.apart h
