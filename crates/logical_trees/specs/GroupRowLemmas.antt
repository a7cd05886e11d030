-- What stands where in the row of a group.
use Rattle.std.proofs.Common.{◌≡◌, ◌≢◌, ℕ, zero, suc, Bool, true, false, cond, List, [], ◌∷◌, map, length, get_or, nat_eq, Some, refl, ap, ap₂, ◌∙◌, arith, inl, inr}
use Rattle.std.specs.List.{All, AllPairs, find}
use Rattle.std.specs.Option.{option_map_or}
use Rattle.std.proofs.Math.ListN.{length-map}
use Rattle.scope_value.specs.declared.value.Value.{Value}
use Rattle.scope_value.specs.declared.value.Value.TheVariants.{Null}
use Rattle.col_sets.specs.Sets.{has, IsColumnSet}
use Rattle.col_sets.specs.Tests.{or_left, or_right, to_test, from_test}
use Rattle.col_sets.specs.Columns.{columns_where-set, has_below, has_union}
use Rattle.structural_props.specs.Rows.{value_at, key_of}
use Rattle.structural_props.specs.Agree.{agree_of}
use Rattle.structural_props.specs.WholeRows.{whole_rows}
use Rattle.logical_trees.specs.declared.agg.Agg.{Agg}
use Rattle.logical_trees.specs.declared.args.GroupArgs.{GroupArgs}
use Rattle.logical_trees.specs.Tree.{group_columns}
use Rattle.logical_trees.specs.Rows.{Row, row_over, agg_at, group_row}
use Rattle.logical_trees.specs.Formed.{IsGroup}
use Rattle.logical_trees.specs.RowLemmas.{value_over, map_members, row_over_same}

-- ---- the aggregate of a column

-- the column of an aggregate is that aggregate's
pub agg_found : (value_of : Agg → Value) (aggs : List Agg) → AllPairs (λ a b. a.id ≢ b.id) aggs → All (λ a. agg_at value_of aggs a.id ≡ value_of a) aggs
agg_found value_of [] h i d l = absurd (omega arith)
agg_found value_of (a ∷ aggs) h zero d l = let e : nat_eq a.id a.id ≡ true = to_test _ _ refl in simp e
agg_found value_of (a ∷ aggs) h (suc i) d l = go (nat_eq a.id (get_or aggs i d).id) refl (agg_found value_of aggs (λ j k e p q. h (suc j) (suc k) e (omega arith) (omega arith)) i d (omega arith))
  where
    go : (b : Bool) → nat_eq a.id (get_or aggs i d).id ≡ b → agg_at value_of aggs (get_or aggs i d).id ≡ value_of (get_or aggs i d)
        → agg_at value_of (a ∷ aggs) (get_or aggs i d).id ≡ value_of (get_or aggs i d)
    go true e more = absurd (h 0 (suc i) d (omega arith) l (from_test _ _ e))
    go false e more = simp e more

-- and is among the columns of the aggregates
pub agg_column : (aggs : List Agg) → All (λ a. has (map (λ b. b.id) aggs) a.id ≡ true) aggs
agg_column [] i d l = absurd (omega arith)
agg_column (a ∷ aggs) zero d l = or_left (nat_eq a.id a.id) (has (map (λ b. b.id) aggs) a.id) (to_test a.id a.id refl)
agg_column (a ∷ aggs) (suc i) d l =
    or_right (nat_eq a.id (get_or aggs i d).id) (has (map (λ b. b.id) aggs) (get_or aggs i d).id) (agg_column aggs i d (omega arith))

-- values that are alike at each aggregate are alike in each column
pub agg_at_same : (value_of others : Agg → Value) (aggs : List Agg) (c : ℕ) → All (λ a. value_of a ≡ others a) aggs → agg_at value_of aggs c ≡ agg_at others aggs c
agg_at_same value_of others [] c h = refl
agg_at_same value_of others (a ∷ aggs) c h =
    let first : value_of a ≡ others a = h 0 a (omega arith) in
    let rest : agg_at value_of aggs c ≡ agg_at others aggs c = agg_at_same value_of others aggs c (λ i d l. h (suc i) d (omega arith)) in
    elim (nat_eq a.id c) as (λ b. option_map_or value_of (cond b (Some a) (find (λ x. nat_eq x.id c) aggs)) Null ≡ option_map_or others (cond b (Some a) (find (λ x. nat_eq x.id c) aggs)) Null)
    [ true ↦ first | false ↦ rest ]

-- ---- the row of a group

-- the columns of a grouped row are a set
pub group_columns-set : (args : GroupArgs) → IsColumnSet (group_columns args)
group_columns-set args = columns_where-set _

module _ (args : GroupArgs) (formed : IsGroup args) where
  -- a column of the key is one of the row
  pub key_column : (c : ℕ) → has args.keys c ≡ true → has (group_columns args) c ≡ true
  key_column c h = has_union args.keys (map (λ a. a.id) args.aggs) c (has_below args.keys formed.key_set c h) (inl h)

  -- in a column of the key stands the key's value
  pub group_row-key : (value_of : Agg → Value) (k : Row) (c : ℕ) → has args.keys c ≡ true → value_at (group_columns args) (group_row args value_of k) c ≡ value_at args.keys k c
  group_row-key value_of k c h =
      value_over (group_columns args) _ c (group_columns-set args) (key_column c h) ∙ ap (λ b. cond b (value_at args.keys k c) (agg_at value_of args.aggs c)) h

  -- the key of the row of a group is the group's
  pub group_row-key_of : (value_of : Agg → Value) (k : Row) → length k ≡ length args.keys → key_of (group_columns args) args.keys (group_row args value_of k) ≡ k
  group_row-key_of value_of k long =
      map_members _ _ args.keys (group_row-key value_of k) ∙ row_over_same args.keys k formed.key_set long

  -- in an aggregate's column stands its value
  pub group_row-agg : (value_of : Agg → Value) (k : Row) → All (λ a. value_at (group_columns args) (group_row args value_of k) a.id ≡ value_of a) args.aggs
  group_row-agg value_of k i d l =
      let a = get_or args.aggs i d in
      let there : has (group_columns args) a.id ≡ true =
      has_union args.keys (map (λ b. b.id) args.aggs) a.id (formed.below i d l) (inr (agg_column args.aggs i d l)) in
      value_over (group_columns args) _ a.id (group_columns-set args) there
      ∙ ap (λ b. cond b (value_at args.keys k a.id) (agg_at value_of args.aggs a.id)) (formed.own i d l) ∙ agg_found value_of args.aggs formed.different i d l

-- values that are alike at each aggregate give one row
pub group_row_same : (args : GroupArgs) (value_of others : Agg → Value) (k : Row) → All (λ a. value_of a ≡ others a) args.aggs → group_row args value_of k ≡ group_row args others k
group_row_same args value_of others k h =
    let each : (c : ℕ) → agg_at value_of args.aggs c ≡ agg_at others args.aggs c = λ c. agg_at_same value_of others args.aggs c h in
    (λ i. row_over (group_columns args) (λ c. cond (has args.keys c) (value_at args.keys k c) (each c i)))
