-- What a conjunct is worth above and below a node.
use Rattle.std.proofs.Common.{◌≡◌, ℕ, Bool, true, false, ◌&&◌, List, refl, sym, ap, ap₂, ◌∙◌, Option, Some, None, slice_get, unwrap_or, not, subst}
use Rattle.std.specs.Prelude.{option_map, All}
use Rattle.std.specs.Option.{option_map_or}
use Rattle.std.proofs.lemmas.Option.{slice_get-map, slice_get_within, get_or_from_slice_get}
use denote.Hole.Carrier.{hidden}
use Rattle.scope_value.specs.declared.value.Value.TheVariants.{Null, Bool as Truth}
use Rattle.scope_value.specs.declared.schema.ColType.{ColType}
use Rattle.scope_value.specs.Keys.{column}
use Rattle.col_sets.specs.Sets.{rank}
use Rattle.col_sets.specs.Tests.{both}
use Rattle.structural_props.specs.Rows.{value_at}
use Rattle.script_trees.specs.declared.op.PairOp.TheVariants.{And}
use Rattle.scope_expr.specs.declared.expr.Expr.{Expr, end_of-Expr, more_of-Expr}
use Rattle.scope_expr.specs.declared.expr.Expr.TheBlock.{shape-the_row-Expr-0, hidden-the_row-Expr-0}
use Rattle.scope_expr.specs.declared.expr.Expr.TheVariants.{Literal, Col, Neg', Not', Pair, Pair'}
use Rattle.scope_expr.specs.Value.{value, holds, column_value, negated, combined, is_true}
use Rattle.scope_expr.specs.Kinds.{EachColumn}
use Rattle.logical_trees.specs.Rows.{Row, projected}
use Rattle.logical_trees.specs.Formed.{IsOver}
use Rattle.normal_meaning.specs.Sinking.{is_simple, has_simple, item_for}
use Rattle.scope_expr.specs.Moved.{each_column, with_columns}
use Rattle.scope_expr.specs.ValueLemmas.{each_gives, each_passes, value_same, value_with}

-- ---- each column

-- where each column's test implies that its values are alike, the predicate holds of both rows or of neither
pub holds_same : (p : ℕ → Bool) (cols base : List ℕ) (row other : Row) → ((c : ℕ) → p c ≡ true → value_at cols row c ≡ value_at base other c) → (e : Expr) → each_column p e ≡ true
    → holds e cols row ≡ holds e base other
holds_same p cols base row other same e h =
    ap is_true (value_same cols base row other e (each_gives (λ c k. p c ≡ true) (λ c k. value_at cols row c ≡ value_at base other c) (λ c k q. same c q) e (each_passes p e h)))

-- ---- items in place of columns

module _ (items : List Expr) (new cols : List ℕ) (row : Row) where
  item_value : (c : ℕ) (k : ColType) → has_simple items new c ≡ true → value (item_for items new c k) cols row ≡ column_value new c (projected items cols row)
  item_value c k h = go (slice_get items (rank new c)) refl h
    where
      go : (o : Option Expr) → slice_get items (rank new c) ≡ o → option_map_or is_simple o false ≡ true
          → value (option_map_or (λ e. e) o (Col c k)) cols row ≡ column (rank new c) (projected items cols row)
      go None e h = absurd (cc)
      go (Some x) e h = sym (ap (λ o. unwrap_or o Null) (slice_get-map (λ e. value e cols row) items (rank new c) ∙ ap (option_map (λ e. value e cols row)) e))

  pub holds_below : (e : Expr) → each_column (has_simple items new) e ≡ true → holds (with_columns (item_for items new) e) cols row ≡ holds e new (projected items cols row)
  holds_below e h =
      ap is_true (value_with (item_for items new) cols new row (projected items cols row) e
      (each_gives (λ c k. has_simple items new c ≡ true) (λ c k. value (item_for items new c k) cols row ≡ column_value new c (projected items cols row)) item_value e (each_passes (has_simple items new) e h)))

-- ---- which columns

-- an expression with others in place of its columns is over theirs
pub over_with : (put : ℕ → ColType → Expr) (cols : List ℕ) (e : Expr) → EachColumn (λ c k. IsOver cols (put c k)) e → IsOver cols (with_columns put e)
unfolding shape-the_row-Expr-0 hidden-the_row-Expr-0 hidden
over_with put cols (Literal v) h = tt
over_with put cols (Col c k) h = h
over_with put cols (Neg' s (more_of-Expr a end_of-Expr)) h = over_with put cols a h
over_with put cols (Not' s (more_of-Expr a end_of-Expr)) h = over_with put cols a h
over_with put cols (Pair' op s (more_of-Expr a end_of-Expr) t (more_of-Expr b end_of-Expr)) h = (over_with put cols a h.0, over_with put cols b h.1)

pub over_both : (cols : List ℕ) (f e : Expr) → IsOver cols f → IsOver cols e → IsOver cols (Pair And f e)
unfolding shape-the_row-Expr-0 hidden-the_row-Expr-0 hidden
over_both cols f e h k = (h, k)

-- what is over all items is over each
over_item : (cols : List ℕ) (items : List Expr) (i : ℕ) (x : Expr) → All (IsOver cols) items → slice_get items i ≡ Some x → IsOver cols x
over_item cols items i x h e = subst (IsOver cols) (get_or_from_slice_get items i x x e) (h i x (slice_get_within items i x e))

pub over_below : (items : List Expr) (new cols : List ℕ) (e : Expr) → All (IsOver cols) items → each_column (has_simple items new) e ≡ true → IsOver cols (with_columns (item_for items new) e)
over_below items new cols e h k =
    over_with (item_for items new) cols e (each_gives (λ c j. has_simple items new c ≡ true) (λ c j. IsOver cols (item_for items new c j)) each e (each_passes (has_simple items new) e k))
  where
    each : (c : ℕ) (j : ColType) → has_simple items new c ≡ true → IsOver cols (item_for items new c j)
    each c j q = go (slice_get items (rank new c)) refl q
      where
        go : (o : Option Expr) → slice_get items (rank new c) ≡ o → option_map_or is_simple o false ≡ true → IsOver cols (option_map_or (λ x. x) o (Col c j))
        go None e r = absurd (cc)
        go (Some x) e r = over_item cols items (rank new c) x h e
