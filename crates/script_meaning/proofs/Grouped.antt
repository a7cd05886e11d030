-- A Group over renumbered columns gives the rows of the meaning.
use Rattle.std.proofs.Common.{◌≡◌, ℕ, ◌+◌, ◌<◌, ◌≤◌, Bool, true, false, cond, List, [], ◌∷◌, ◌++◌, map, filter, length, refl, ap, ap₂, ◌∙◌, arith, nat_eq, Option}
use Rattle.std.specs.List.{range_with_len}
use Rattle.std.specs.Prelude.{option_map}
use Rattle.std.specs.Ordering.{eq_by_cmp}
use Rattle.std.proofs.lemmas.Bool.Decides.{nat_tests}
use Rattle.std.proofs.lemmas.List.{length-map}
use Rattle.scope_value.specs.declared.value.Value.{Value}
use Rattle.scope_value.specs.Order.{row_cmp}
use Rattle.col_sets.specs.Sets.{has, union}
use Rattle.structural_props.specs.Rows.{value_at}
use Rattle.script_trees.specs.declared.agg.AggKind.{AggKind}
use Rattle.scope_expr.specs.declared.expr.Expr.{Expr}
use Rattle.logical_trees.specs.declared.agg.Agg.{Agg}
use Rattle.logical_trees.specs.Rows.{Row, Bag, row_over, with_key, exact, fitted, whole_value, agg_at, group_row, group_keys, grouped}
use Rattle.list_lemmas.specs.Distinct.{distinct}
use Rattle.scope_expr.specs.Moved.{HasRanks, moved}
use Rattle.column_ranks.specs.Rising.{IsRising}
use Rattle.column_ranks.specs.RisingLemmas.{rising_from, rising_below, rising_append, rising_range, union_append}
use Rattle.logical_trees.specs.RowLemmas.{map_members}
use Rattle.column_ranks.specs.RowLemmas.{map_over_append, key_moved, argument_moved, values, values_over}
use Rattle.script_meaning.specs.Meaning.{places, agg_value}
use Rattle.script_meaning.specs.Part.{numbered}

pub ids_numbered : (f : ℕ → ℕ) (e : ℕ) (aggs : List (AggKind × Option Expr)) → map (λ (a : Agg). a.id) (numbered f e aggs) ≡ range_with_len e (length aggs)
ids_numbered f e [] = refl
ids_numbered f e (g ∷ aggs) = ap (λ l. e ∷ l) (ids_numbered f (e + 1) aggs)

-- each aggregate's column has its value
values_numbered : (value_of : Agg → Value) (f : ℕ → ℕ) (e : ℕ) (aggs : List (AggKind × Option Expr))
    → map (agg_at value_of (numbered f e aggs)) (range_with_len e (length aggs)) ≡ map value_of (numbered f e aggs)
values_numbered value_of f e [] = refl
values_numbered value_of f e (g ∷ aggs) =
    let first : nat_eq e e ≡ true = grind (arith, nat_tests) in
    rw first (ap (λ l. value_of (record { kind = g.0; arg = option_map (moved f) g.1; id = e }) ∷ l)
    (map_members (agg_at value_of (numbered f e (g ∷ aggs))) (agg_at value_of (numbered f (e + 1) aggs)) (range_with_len (e + 1) (length aggs)) later
    ∙ values_numbered value_of f (e + 1) aggs))
  where
    later : (c : ℕ) → has (range_with_len (e + 1) (length aggs)) c ≡ true → agg_at value_of (numbered f e (g ∷ aggs)) c ≡ agg_at value_of (numbered f (e + 1) aggs) c
    later c h =
        let l : e + 1 ≤ c = rising_from (e + 1) _ _ c (rising_range (e + 1) (length aggs) _ refl) h in
        let other : nat_eq e c ≡ false = grind (arith, nat_tests) in
        rw other refl

module _ (f : ℕ → ℕ) (n : ℕ) (cols : List ℕ) (h : HasRanks f (places n) cols) where
  group_keys_moved : (keys : List ℕ) (A : Bag) → group_keys cols (map f keys) A ≡ group_keys (places n) keys A
  group_keys_moved [] A = refl
  group_keys_moved (c ∷ key) A = (λ i. distinct (map (λ r. key_moved f (places n) cols h (c ∷ key) r i) A))

  with_key_moved : (keys : List ℕ) (k : Row) (A : Bag) → with_key cols (map f keys) k A ≡ with_key (places n) keys k A
  with_key_moved keys k A = (λ i. filter (λ r. eq_by_cmp row_cmp k (key_moved f (places n) cols h keys r i)) A)

  agg_moved : (g : AggKind × Option Expr) (e : ℕ) (A : Bag) → whole_value cols (record { kind = g.0; arg = option_map (moved f) g.1; id = e }) A ≡ agg_value n g A
  agg_moved g e A = (λ i. fitted g.0 (exact g.0 (map (λ r. argument_moved f (places n) cols h g.1 r i) A)))

  aggs_moved : (aggs : List (AggKind × Option Expr)) (e : ℕ) (A B : Bag) → A ≡ B → map (λ a. whole_value cols a A) (numbered f e aggs) ≡ map (λ g. agg_value n g B) aggs
  aggs_moved [] e A B same = refl
  aggs_moved (g ∷ aggs) e A B same = ap₂ (λ v vs. v ∷ vs) (agg_moved g e A ∙ ap (agg_value n g) same) (aggs_moved aggs (e + 1) A B same)

  pub group_moved : (written : Option (List ℕ)) (keys : List ℕ) (aggs : List (AggKind × Option Expr)) (m e : ℕ) (A : Bag)
      → IsRising 0 (map f keys) m → m ≤ e → e + length aggs ≤ 128
      → grouped (record { written = written; keys = map f keys; aggs = numbered f e aggs }) cols A
      ≡ map (λ k. values (length keys) k ++ map (λ g. agg_value n g (with_key (places n) keys k A)) aggs) (group_keys (places n) keys A)
  group_moved written keys aggs m e A rising l room =
      (λ i. map (λ k. row k i) (group_keys cols (map f keys) A)) ∙ ap (map (λ k. values (length keys) k ++ map (λ g. agg_value n g (with_key (places n) keys k A)) aggs)) (group_keys_moved keys A)
    where
      behind : IsRising m (range_with_len e (length aggs)) (e + length aggs)
      behind = lower (rising_range e (length aggs) (e + length aggs) refl)
        where
          lower : IsRising e (range_with_len e (length aggs)) (e + length aggs) → IsRising m (range_with_len e (length aggs)) (e + length aggs)
          lower = go (range_with_len e (length aggs))
            where
              go : (s : List ℕ) → IsRising e s (e + length aggs) → IsRising m s (e + length aggs)
              go [] k = omega arith
              go (c ∷ s) k = let q : e ≤ c = k.0 in (omega arith, k.1)

      row : (k : Row) → group_row (record { written = written; keys = map f keys; aggs = numbered f e aggs }) (λ a. whole_value cols a (with_key cols (map f keys) k A)) k
          ≡ values (length keys) k ++ map (λ g. agg_value n g (with_key (places n) keys k A)) aggs
      row k =
          ap (λ cs. row_over (union (map f keys) cs) pick) (ids_numbered f e aggs)
          ∙ ap (λ cs. row_over cs pick) (union_append (e + length aggs) (map f keys) (range_with_len e (length aggs)) (rising_append 0 m _ _ _ rising behind) room)
          ∙ map_over_append pick (map f keys) (range_with_len e (length aggs))
          ∙ ap₂ (λ x y. x ++ y)
          (map_members pick (value_at (map f keys) k) (map f keys) (λ c q. rw q refl) ∙ values_over 0 m (map f keys) k rising ∙ ap (λ i. values i k) (length-map keys f))
          (map_members pick (agg_at value_of (numbered f e aggs)) (range_with_len e (length aggs)) (λ c q. rw (other c q) refl)
          ∙ values_numbered value_of f e aggs
          ∙ aggs_moved aggs e _ _ (with_key_moved keys k A))
        where
          value_of : Agg → Value
          value_of a = whole_value cols a (with_key cols (map f keys) k A)

          pick : ℕ → Value
          pick c = cond (has (map f keys) c) (value_at (map f keys) k c) (agg_at value_of (numbered f e aggs) c)

          other : (c : ℕ) → has (range_with_len e (length aggs)) c ≡ true → has (map f keys) c ≡ false
          other c q = at (has (map f keys) c) refl
            where
              at : (v : Bool) → has (map f keys) c ≡ v → has (map f keys) c ≡ false
              at true t =
                  let lo : m ≤ c = rising_from m _ _ c behind q in
                  let hi : c < m = rising_below 0 m (map f keys) c rising t in
                  absurd (omega arith)
              at false t = t
