-- The Combine of an outer join gives the outer join.
use Rattle.std.proofs.Common.{◌≡◌, ◌<◌, ◌^◌, ℕ, Bool, true, false, cond, List, [], ◌∷◌, ◌++◌, map, filter, flat_map, refl, sym, ap, ap₂, ◌∙◌, append-nil, subst, length, IsPermutation}
use Rattle.std.specs.List.{list_any}
use Rattle.std.specs.Ordering.{eq_by_cmp}
use Rattle.std.proofs.lemmas.List.Folds.{list_any-append}
use Rattle.std.proofs.lemmas.List.Sorted.{IsPermutation-refl, IsPermutation-trans, IsPermutation-map, IsPermutation-append}
use Rattle.scope_value.specs.Order.{value_cmp, value_eq-decides}
use Rattle.scope_value.specs.Keys.{keys_cmp}
use Rattle.col_sets.specs.Tests.{both, and_true, or_left, or_right, same_tests}
use Rattle.structural_props.specs.Rows.{value_at, key_of, items}
use Rattle.structural_props.specs.Actions.{In}
use Rattle.logical_trees.specs.Rows.{Row, Bag, agree_on, with_key, in_order, left_columns, right_columns, keys_of_both}
use Rattle.list_lemmas.specs.Bags.{same_permuted, along_permutation, flat_map_permuted, flat_map_each}
use Rattle.list_lemmas.specs.Distinct.{is_row, row_is, row_turned, row_itself}
use Rattle.list_lemmas.specs.Sorting.{sorted_moved}
use Rattle.user_ops.specs.Told.{Operators, ToldCombiner, given_by, combines_at}
use Rattle.outer_joins.specs.declared.side.Side.{Side}
use Rattle.outer_joins.specs.OuterPairs.{keeps_left, keeps_right, nulls, outer_pairs}
use Rattle.outer_joins.specs.Combiners.{outer_told}
use Rattle.outer_joins.specs.Laws.{width_args}
use Rattle.outer_joins.proofs.WidthLemmas.{gives_outer_pairs}
use Rattle.script_meaning.specs.Meaning.{agreeing, lone_left, lone_right, outer_bag}
use Rattle.script_meaning.specs.Laws.{GivesOuterJoin, TellsOuter, GivesToldJoin, AreToldCalls}
use Rattle.script_meaning.proofs.OuterLists.{loop_apart, is_nil, by_groups, key_there, padded, lone_rows}

-- ---- what the combiner gives of two groups, in one line

pairs : Bag → Bag → Bag
pairs A B = flat_map (λ r. map (λ s. r ++ s) B) A

no_pairs : (A : Bag) → flat_map (λ r. map (λ s. r ++ s) []) A ≡ []
no_pairs [] = refl
no_pairs (r ∷ A) = no_pairs A

abbrev if_kept : Bool → Bag → Bag
if_kept b A = cond b A []

abbrev in_one : Side → ℕ → ℕ → Bag → Bag → Bag
in_one side m n A B =
    flat_map (λ r. map (λ s. r ++ s) B) A ++ (if_kept (keeps_left side) (padded (λ r. r ++ nulls n) A B) ++ if_kept (keeps_right side) (padded (λ s. nulls m ++ s) B A))

none_kept : (b : Bool) → if_kept b [] ≡ []
none_kept true = refl
none_kept false = refl

none_padded : (pad : Row → Row) (B : Bag) → padded pad [] B ≡ []
none_padded pad [] = refl
none_padded pad (s ∷ B) = refl

outer_in_one : (side : Side) (m n : ℕ) (A B : Bag) → outer_pairs side m n A B ≡ in_one side m n A B
outer_in_one side m n [] B =
    sym (ap (λ l. l ++ if_kept (keeps_right side) (map (λ s. nulls m ++ s) B)) (ap (if_kept (keeps_left side)) (none_padded (λ r. r ++ nulls n) B) ∙ none_kept (keeps_left side)))
outer_in_one side m n (r ∷ A) [] =
    sym (ap₂ (λ k l. k ++ (if_kept (keeps_left side) (map (λ r. r ++ nulls n) (r ∷ A)) ++ l)) (no_pairs (r ∷ A)) (none_kept (keeps_right side))
    ∙ append-nil (if_kept (keeps_left side) (map (λ r. r ++ nulls n) (r ∷ A))))
outer_in_one side m n (r ∷ A) (s ∷ B) =
    sym (ap₂ (λ k l. flat_map (λ r. map (λ s. r ++ s) (s ∷ B)) (r ∷ A) ++ (k ++ l)) (none_kept (keeps_left side)) (none_kept (keeps_right side))
    ∙ append-nil (flat_map (λ r. map (λ s. r ++ s) (s ∷ B)) (r ∷ A)))

-- ---- it looks at bags alone

nil_permuted : {X : Type 0} (xs ys : List X) → IsPermutation xs ys → is_nil xs ≡ is_nil ys
nil_permuted = along_permutation (λ xs ys. is_nil xs ≡ is_nil ys) (λ xs. refl) (λ x xs ys h. refl) (λ x y xs. refl) (λ xs ys zs h k. h ∙ k)

padded_permuted : (pad : Row → Row) (A B C D : Bag) → IsPermutation A C → IsPermutation B D → IsPermutation (padded pad A B) (padded pad C D)
padded_permuted pad A B C D h k = rw (nil_permuted B D k) (go (is_nil D))
  where
    go : (b : Bool) → IsPermutation (cond b (map pad A) []) (cond b (map pad C) [])
    go true = IsPermutation-map pad A C h
    go false = IsPermutation-refl []

kept_permuted : (b : Bool) (A B : Bag) → IsPermutation A B → IsPermutation (if_kept b A) (if_kept b B)
kept_permuted true A B h = h
kept_permuted false A B h = IsPermutation-refl []

one_permuted : (side : Side) (m n : ℕ) (A B C D : Bag) → IsPermutation A C → IsPermutation B D → IsPermutation (in_one side m n A B) (in_one side m n C D)
one_permuted side m n A B C D h k =
    IsPermutation-append _ _ _ _
    (IsPermutation-trans _ _ _ (flat_map_permuted (λ r. map (λ s. r ++ s) B) A C h) (flat_map_each (λ r. map (λ s. r ++ s) B) (λ r. map (λ s. r ++ s) D) (λ r. IsPermutation-map (λ s. r ++ s) B D k) C))
    (IsPermutation-append _ _ _ _
    (kept_permuted (keeps_left side) _ _ (padded_permuted (λ r. r ++ nulls n) A B C D h k))
    (kept_permuted (keeps_right side) _ _ (padded_permuted (λ s. nulls m ++ s) B A D C k h)))

-- ---- keys

-- rows agree where their keys are one
keys_agree : (on : List (ℕ × ℕ)) (left right : List ℕ) (r s : Row) → is_row (key_of left (left_columns on) r) (key_of right (right_columns on) s) ≡ agree_on on left right r s
keys_agree [] left right r s = row_itself []
keys_agree (p ∷ on) left right r s = same_tests _ _ (there (keys_agree on left right r s)) (back (keys_agree on left right r s))
  where
    there : is_row (key_of left (left_columns on) r) (key_of right (right_columns on) s) ≡ agree_on on left right r s
        → is_row (key_of left (left_columns (p ∷ on)) r) (key_of right (right_columns (p ∷ on)) s) ≡ true → agree_on (p ∷ on) left right r s ≡ true
    there later h =
        let e : value_at left r p.0 ∷ key_of left (left_columns on) r ≡ value_at right s p.1 ∷ key_of right (right_columns on) s = row_is _ _ h in
        let first : value_at left r p.0 ≡ value_at right s p.1 = cc in
        let rest : key_of left (left_columns on) r ≡ key_of right (right_columns on) s = cc in
        and_true _ _ ((value_eq-decides (value_at left r p.0) (value_at right s p.1)).1 first)
        (sym later ∙ subst (λ (k : Row). is_row (key_of left (left_columns on) r) k ≡ true) rest (row_itself (key_of left (left_columns on) r)))

    back : is_row (key_of left (left_columns on) r) (key_of right (right_columns on) s) ≡ agree_on on left right r s
        → agree_on (p ∷ on) left right r s ≡ true → is_row (key_of left (left_columns (p ∷ on)) r) (key_of right (right_columns (p ∷ on)) s) ≡ true
    back later h =
        let parts = both (eq_by_cmp value_cmp (value_at left r p.0) (value_at right s p.1)) (agree_on on left right r s) h in
        let first : value_at left r p.0 ≡ value_at right s p.1 = (value_eq-decides (value_at left r p.0) (value_at right s p.1)).0 parts.0 in
        let rest : key_of left (left_columns on) r ≡ key_of right (right_columns on) s = row_is _ _ (later ∙ parts.1) in
        subst (λ (k : Row). is_row (value_at left r p.0 ∷ key_of left (left_columns on) r) k ≡ true) (ap₂ (λ v vs. v ∷ vs) first rest) (row_itself (value_at left r p.0 ∷ key_of left (left_columns on) r))

-- ---- the outer join

module _ (on : List (ℕ × ℕ)) (left right : List ℕ) (A B : Bag) where
  abbrev on_left : Row → Row
  on_left = key_of left (left_columns on)

  abbrev on_right : Row → Row
  on_right = key_of right (right_columns on)

  abbrev keys : List Row
  keys = map (key_of left (left_columns on)) A ++ map (key_of right (right_columns on)) B

  covers_left : (r : Row) → In r A → list_any (is_row (key_of left (left_columns on) r)) (map (key_of left (left_columns on)) A ++ map (key_of right (right_columns on)) B) ≡ true
  covers_left r h =
      list_any-append (is_row (key_of left (left_columns on) r)) (map (key_of left (left_columns on)) A) (map (key_of right (right_columns on)) B)
      ∙ or_left _ _ (key_there (key_of left (left_columns on)) A r h)

  covers_right : (s : Row) → In s B → list_any (is_row (key_of right (right_columns on) s)) (map (key_of left (left_columns on)) A ++ map (key_of right (right_columns on)) B) ≡ true
  covers_right s h =
      list_any-append (is_row (key_of right (right_columns on) s)) (map (key_of left (left_columns on)) A) (map (key_of right (right_columns on)) B)
      ∙ or_right _ _ (key_there (key_of right (right_columns on)) B s h)

  all_pairs : IsPermutation (flat_map (λ k. flat_map (λ r. map (λ s. r ++ s) (with_key right (right_columns on) k B)) (with_key left (left_columns on) k A)) (keys_of_both on left right A B))
      (agreeing (agree_on on left right) A B)
  all_pairs =
      by_groups (key_of left (left_columns on)) (map (key_of left (left_columns on)) A ++ map (key_of right (right_columns on)) B)
      (λ k r. map (λ s. r ++ s) (with_key right (right_columns on) k B)) (λ r. map (λ s. r ++ s) (filter (agree_on on left right r) B))
      (λ k r e. ap (map (λ s. r ++ s)) (ap (λ x. filter (λ s. is_row x (key_of right (right_columns on) s)) B) e ∙ (λ i. filter (λ s. keys_agree on left right r s i) B)))
      A covers_left

  all_left : (n : ℕ) (b : Bool)
      → IsPermutation (flat_map (λ k. if_kept b (padded (λ r. r ++ nulls n) (with_key left (left_columns on) k A) (with_key right (right_columns on) k B))) (keys_of_both on left right A B))
      (if_kept b (lone_left (agree_on on left right) n A B))
  all_left n true =
      lone_rows (key_of left (left_columns on)) (key_of right (right_columns on)) (map (key_of left (left_columns on)) A ++ map (key_of right (right_columns on)) B)
      (λ r. r ++ nulls n) (agree_on on left right) (keys_agree on left right) A B covers_left
  all_left n false = same_permuted _ _ (no_loop (keys_of_both on left right A B))
    where
      no_loop : (ks : List Row) → flat_map (λ k. if_kept false (padded (λ r. r ++ nulls n) (with_key left (left_columns on) k A) (with_key right (right_columns on) k B))) ks ≡ []
      no_loop [] = refl
      no_loop (k ∷ ks) = no_loop ks

  all_right : (m : ℕ) (b : Bool)
      → IsPermutation (flat_map (λ k. if_kept b (padded (λ s. nulls m ++ s) (with_key right (right_columns on) k B) (with_key left (left_columns on) k A))) (keys_of_both on left right A B))
      (if_kept b (lone_right (agree_on on left right) m A B))
  all_right m true =
      lone_rows (key_of right (right_columns on)) (key_of left (left_columns on)) (map (key_of left (left_columns on)) A ++ map (key_of right (right_columns on)) B)
      (λ s. nulls m ++ s) (λ s r. agree_on on left right r s) (λ s r. row_turned (key_of right (right_columns on) s) (key_of left (left_columns on) r) ∙ keys_agree on left right r s) B A covers_right
  all_right m false = same_permuted _ _ (no_loop (keys_of_both on left right A B))
    where
      no_loop : (ks : List Row) → flat_map (λ k. if_kept false (padded (λ s. nulls m ++ s) (with_key right (right_columns on) k B) (with_key left (left_columns on) k A))) ks ≡ []
      no_loop [] = refl
      no_loop (k ∷ ks) = no_loop ks

  pub outer_is : (side : Side) (m n : ℕ) (gives : Bag → Bag → Bag) → ((C D : Bag) → gives C D ≡ outer_pairs side m n C D)
      → IsPermutation
      (flat_map (λ k. gives (in_order left [] (with_key left (left_columns on) k A)) (in_order right [] (with_key right (right_columns on) k B))) (keys_of_both on left right A B))
      (outer_bag side (agree_on on left right) m n A B)
  outer_is side m n gives told =
      IsPermutation-trans _ _ _ (flat_map_each (λ k. gives (in_order left [] (with_key left (left_columns on) k A)) (in_order right [] (with_key right (right_columns on) k B)))
      (λ k. in_one side m n (with_key left (left_columns on) k A) (with_key right (right_columns on) k B)) each (keys_of_both on left right A B))
      (IsPermutation-trans _ _ _ (loop_apart
      (λ k. flat_map (λ r. map (λ s. r ++ s) (with_key right (right_columns on) k B)) (with_key left (left_columns on) k A))
      (λ k. if_kept (keeps_left side) (padded (λ r. r ++ nulls n) (with_key left (left_columns on) k A) (with_key right (right_columns on) k B))
      ++ if_kept (keeps_right side) (padded (λ s. nulls m ++ s) (with_key right (right_columns on) k B) (with_key left (left_columns on) k A)))
      (keys_of_both on left right A B))
      (IsPermutation-append _ _ _ _ all_pairs
      (IsPermutation-trans _ _ _ (loop_apart
      (λ k. if_kept (keeps_left side) (padded (λ r. r ++ nulls n) (with_key left (left_columns on) k A) (with_key right (right_columns on) k B)))
      (λ k. if_kept (keeps_right side) (padded (λ s. nulls m ++ s) (with_key right (right_columns on) k B) (with_key left (left_columns on) k A)))
      (keys_of_both on left right A B))
      (IsPermutation-append _ _ _ _ (all_left n (keeps_left side)) (all_right m (keeps_right side))))))
    where
      each : (k : Row) → IsPermutation (gives (in_order left [] (with_key left (left_columns on) k A)) (in_order right [] (with_key right (right_columns on) k B)))
          (in_one side m n (with_key left (left_columns on) k A) (with_key right (right_columns on) k B))
      each k =
          IsPermutation-trans _ _ _ (same_permuted _ _ (told _ _ ∙ outer_in_one side m n _ _))
          (one_permuted side m n _ _ _ _ (sorted_moved (keys_cmp (items left []) true) (with_key left (left_columns on) k A)) (sorted_moved (keys_cmp (items right []) true) (with_key right (right_columns on) k B)))

pub gives_outer_join : GivesOuterJoin
gives_outer_join ops side call on left right m n A B told = outer_is on left right A B side m n (combines_at ops call.op call.args) told

-- ---- the combiners of outer_joins

told_pairs : (ops : Operators) (side : Side) (place : ℕ) (args : List (List ℕ)) (m n : ℕ) → TellsOuter ops place side → args ≡ width_args m n → m < 2 ^ 64 → n < 2 ^ 64
    → (C D : Bag) → combines_at ops place args C D ≡ outer_pairs side m n C D
told_pairs ops side place args m n tells are small few C D =
    ap (given_by (λ (c : ToldCombiner). c.combines args C D)) tells.there
    ∙ ap (λ (gives : List (List ℕ) → Bag → Bag → Bag). gives args C D) tells.same
    ∙ ap (λ (a : List (List ℕ)). (outer_told side).combines a C D) are
    ∙ gives_outer_pairs side m n C D small few

pub gives_told_join : GivesToldJoin
gives_told_join ops side call on left right A B tells are small few =
    gives_outer_join ops side call on left right (length left) (length right) A B
    (told_pairs ops side call.op call.args (length left) (length right) tells are small few)

pub are_told_calls : AreToldCalls
are_told_calls ops side call m n tells are columns small few = record {
  columns = columns;
  gives = told_pairs ops side call.op call.args m n tells are small few;
}
