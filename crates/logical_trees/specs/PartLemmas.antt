-- A bag grouped at once, and by parts.
use Rattle.std.proofs.Common.{◌≡◌, ℕ, Bool, true, false, cond, ◌||◌, not, List, [], ◌∷◌, ◌++◌, map, filter, flat_map, length, get_or, refl, sym, ap, ap₂, ◌∙◌, IsPermutation}
use Rattle.std.specs.List.{All, AllByRecursion, list_any}
use Rattle.std.proofs.Math.ListN.{length-map}
use Rattle.std.proofs.lemmas.List.{map-append}
use Rattle.std.proofs.lemmas.List.Elements.{filter-append}
use Rattle.std.proofs.lemmas.List.Sorted.{IsPermutation-trans, IsPermutation-sym}
use Rattle.scope_value.specs.declared.value.Value.{Value}
use Rattle.structural_props.specs.Rows.{value_at, key_of}
use Rattle.logical_trees.specs.declared.agg.Agg.{Agg}
use Rattle.logical_trees.specs.declared.args.GroupArgs.{GroupArgs}
use Rattle.logical_trees.specs.Tree.{group_columns}
use Rattle.logical_trees.specs.Rows.{Row, Bag, with_key, keys_among, argument, exact, together, fitted, partial_value, whole_value, finished_value, group_row, rows_of_keys, group_keys, grouped, partial_rows, finished}
use Rattle.list_lemmas.specs.Distinct.{distinct, is_row, distinct_later, distinct_twice, distinct_at}
use Rattle.logical_trees.specs.Formed.{IsGroup}
use Rattle.logical_trees.specs.AggregateLemmas.{together_parts}
use Rattle.list_lemmas.specs.Bags.{map_each, same_permuted}
use Rattle.logical_trees.specs.GroupRowLemmas.{group_row-key_of, group_row-agg, group_row_same}
use Rattle.logical_trees.specs.GroupLemmas.{grouped_permuted, finished_permuted}

-- ---- lists

-- what holds of each row holds of each that is kept
all_filtered : {X : Type 0} (P : X → Type 0) (q : X → Bool) (xs : List X) → AllByRecursion P xs → AllByRecursion P (filter q xs)
all_filtered P q [] h = tt
all_filtered P q (x ∷ xs) h =
    elim (q x) as (λ b. AllByRecursion P (cond b (x ∷ filter q xs) (filter q xs))) [ true ↦ (h.0, all_filtered P q xs h.1) | false ↦ all_filtered P q xs h.1 ]

all_distinct : (P : Row → Type 0) (rows : List Row) → AllByRecursion P rows → AllByRecursion P (distinct rows)
all_distinct P [] h = tt
all_distinct P (r ∷ rows) h = (h.0, all_filtered P (λ s. not (is_row r s)) (distinct rows) (all_distinct P rows h.1))

-- a filter after a map, by a test that sees what was mapped
filter_mapped : {X Y : Type 0} (q : Y → Bool) (p : X → Bool) (f : X → Y) (xs : List X) → AllByRecursion (λ x. q (f x) ≡ p x) xs → filter q (map f xs) ≡ map f (filter p xs)
filter_mapped q p f [] h = refl
filter_mapped q p f (x ∷ xs) h =
    ap (λ b. cond b (f x ∷ filter q (map f xs)) (filter q (map f xs))) h.0
    ∙ (elim (p x) as (λ b. cond b (f x ∷ filter q (map f xs)) (filter q (map f xs)) ≡ map f (cond b (x ∷ filter p xs) (filter p xs)))
    [ true ↦ ap (λ l. f x ∷ l) (filter_mapped q p f xs h.1) | false ↦ filter_mapped q p f xs h.1 ])

-- where no element passes, none is kept
filter_none : {X Y : Type 0} (q : Y → Bool) (f : X → Y) (xs : List X) → list_any q (map f xs) ≡ false → filter (λ x. q (f x)) xs ≡ []
filter_none q f [] h = refl
filter_none q f (x ∷ xs) h = go (q (f x)) refl h (filter_none q f xs)
  where
    go : (b : Bool) → q (f x) ≡ b → (b || list_any q (map f xs)) ≡ false → (list_any q (map f xs) ≡ false → filter (λ y. q (f y)) xs ≡ []) → filter (λ y. q (f y)) (x ∷ xs) ≡ []
    go true e k more = absurd (cc)
    go false e k more = rw e (more k)

-- ---- keys

-- keys of rows are as long as the key has columns
all_keys_long : (cols key : List ℕ) (rows : Bag) → AllByRecursion (λ k. length k ≡ length key) (map (key_of cols key) rows)
all_keys_long cols key [] = tt
all_keys_long cols key (r ∷ rows) = (length-map key (value_at cols r), all_keys_long cols key rows)

-- a key has a value for each of its columns
pub keys_long : (cols key : List ℕ) (rows : Bag) → AllByRecursion (λ k. length k ≡ length key) (keys_among cols key rows)
keys_long cols key rows = all_distinct (λ k. length k ≡ length key) _ (all_keys_long cols key rows)

module _ (args : GroupArgs) (formed : IsGroup args) (cols : List ℕ) where
  -- the partial row of a key
  abbrev row_of : Bag → Row → Row
  row_of part k = group_row args (λ a. partial_value cols a (with_key cols args.keys k part)) k

  -- the keys of partial rows are those that they were made for
  keys_back : (part : Bag) (keys : List Row) → AllByRecursion (λ k. length k ≡ length args.keys) keys → map (key_of (group_columns args) args.keys) (map (row_of part) keys) ≡ keys
  keys_back part [] h = refl
  keys_back part (k ∷ keys) h =
      ap₂ ◌∷◌ (group_row-key_of args formed (λ a. partial_value cols a (with_key cols args.keys k part)) k h.0) (keys_back part keys h.1)

  -- partial rows have the keys of the rows that they are of
  same_keys : (parts : List Bag) → keys_among (group_columns args) args.keys (flat_map (partial_rows args cols) parts) ≡ keys_among cols args.keys (flat_map (λ part. part) parts)
  same_keys [] = refl
  same_keys (part ∷ parts) =
      let key = key_of (group_columns args) args.keys in
      let later = flat_map (partial_rows args cols) parts in
      let all = map (key_of cols args.keys) part in
      ap distinct (map-append key (partial_rows args cols part) later ∙ ap (λ l. l ++ map key later) (keys_back part (keys_among cols args.keys part) (keys_long cols args.keys part)))
      ∙ distinct_twice all _ ∙ distinct_later all _ _ (same_keys parts) ∙ ap distinct (sym (map-append (key_of cols args.keys) part (flat_map (λ p. p) parts)))

  -- and so it is with the keys of the groups
  same_group_keys : (parts : List Bag) → group_keys (group_columns args) args.keys (flat_map (partial_rows args cols) parts) ≡ group_keys cols args.keys (flat_map (λ part. part) parts)
  same_group_keys parts = at args.keys (same_keys parts)
    where
      at : (keys : List ℕ) → keys_among (group_columns args) keys (flat_map (partial_rows args cols) parts) ≡ keys_among cols keys (flat_map (λ part. part) parts)
          → group_keys (group_columns args) keys (flat_map (partial_rows args cols) parts) ≡ group_keys cols keys (flat_map (λ part. part) parts)
      at [] h = refl
      at (c ∷ keys) h = h

  -- ---- what the parts bring to a key

  -- whether a row of the part has the key
  abbrev is_there : Row → Bag → Bool
  is_there k part = list_any (is_row k) (map (key_of cols args.keys) part)

  -- a part has one partial row with a key that is there, and none with another
  partial_at : (k : Row) (part : Bag) → with_key (group_columns args) args.keys k (partial_rows args cols part) ≡ map (row_of part) (cond (is_there k part) (k ∷ []) [])
  partial_at k part =
      filter_mapped (λ r. is_row k (key_of (group_columns args) args.keys r)) (is_row k) (row_of part) (keys_among cols args.keys part)
      (tests (keys_among cols args.keys part) (keys_long cols args.keys part))
      ∙ ap (map (row_of part)) (distinct_at k (map (key_of cols args.keys) part))
    where
      tests : (keys : List Row) → AllByRecursion (λ j. length j ≡ length args.keys) keys → AllByRecursion (λ j. is_row k (key_of (group_columns args) args.keys (row_of part j)) ≡ is_row k j) keys
      tests [] h = tt
      tests (j ∷ keys) h = (ap (is_row k) (group_row-key_of args formed (λ a. partial_value cols a (with_key cols args.keys j part)) j h.0), tests keys h.1)

  -- what an aggregate looks at on the rows with a key
  abbrev looked_at : Agg → Row → Bag → List Value
  looked_at a k rows = map (argument a.arg cols) (with_key cols args.keys k rows)

  -- the same for each part that has such a row
  abbrev looked_at_parts : Agg → Row → List Bag → List (List Value)
  looked_at_parts a k parts = flat_map (λ part. cond (is_there k part) (looked_at a k part ∷ []) []) parts

  -- together they are what it looks at on all rows with the key
  looked_at_all : (a : Agg) (k : Row) (parts : List Bag) → flat_map (λ vs. vs) (looked_at_parts a k parts) ≡ looked_at a k (flat_map (λ part. part) parts)
  looked_at_all a k [] = refl
  looked_at_all a k (part ∷ parts) =
      go (is_there k part) refl (looked_at_all a k parts)
      ∙ sym (ap (map (argument a.arg cols)) (filter-append (λ r. is_row k (key_of cols args.keys r)) part (flat_map (λ p. p) parts))
      ∙ map-append (argument a.arg cols) (with_key cols args.keys k part) (with_key cols args.keys k (flat_map (λ p. p) parts)))
    where
      go : (b : Bool) → is_there k part ≡ b → flat_map (λ vs. vs) (looked_at_parts a k parts) ≡ looked_at a k (flat_map (λ p. p) parts)
          → flat_map (λ vs. vs) (looked_at_parts a k (part ∷ parts)) ≡ looked_at a k part ++ looked_at a k (flat_map (λ p. p) parts)
      go true e h = simp e (ap (λ l. looked_at a k part ++ l) h)
      go false e h =
          let none : with_key cols args.keys k part ≡ [] = filter_none (is_row k) (key_of cols args.keys) part e in
          simp e (h ∙ sym (ap (λ rows. map (argument a.arg cols) rows ++ looked_at a k (flat_map (λ p. p) parts)) none))

  -- in an aggregate's column the partial rows with a key have what it makes of each part
  brought : (k : Row) (parts : List Bag) → All (λ a. map (λ r. value_at (group_columns args) r a.id) (with_key (group_columns args) args.keys k (flat_map (partial_rows args cols) parts))
      ≡ map (exact a.kind) (looked_at_parts a k parts)) args.aggs
  brought k [] i d l = refl
  brought k (part ∷ parts) i d l =
      let a = get_or args.aggs i d in
      let made = partial_rows args cols part in
      let later = flat_map (partial_rows args cols) parts in
      ap (map (λ r. value_at (group_columns args) r a.id))
      (filter-append (λ r. is_row k (key_of (group_columns args) args.keys r)) made later ∙ ap (λ rows. rows ++ with_key (group_columns args) args.keys k later) (partial_at k part))
      ∙ map-append (λ r. value_at (group_columns args) r a.id) (map (row_of part) (cond (is_there k part) (k ∷ []) [])) (with_key (group_columns args) args.keys k later)
      ∙ go (is_there k part) (brought k parts i d l)
    where
      go : (b : Bool)
          → map (λ r. value_at (group_columns args) r (get_or args.aggs i d).id) (with_key (group_columns args) args.keys k (flat_map (partial_rows args cols) parts))
          ≡ map (exact (get_or args.aggs i d).kind) (looked_at_parts (get_or args.aggs i d) k parts)
          → map (λ r. value_at (group_columns args) r (get_or args.aggs i d).id) (map (row_of part) (cond b (k ∷ []) []))
          ++ map (λ r. value_at (group_columns args) r (get_or args.aggs i d).id) (with_key (group_columns args) args.keys k (flat_map (partial_rows args cols) parts))
          ≡ map (exact (get_or args.aggs i d).kind) (cond b (looked_at (get_or args.aggs i d) k part ∷ []) [] ++ looked_at_parts (get_or args.aggs i d) k parts)
      go true h = ap₂ ◌∷◌ (group_row-agg args formed (λ a. partial_value cols a (with_key cols args.keys k part)) k i d l) h
      go false h = h

  -- an aggregate's value of the partial rows with a key is its value of the rows with that key
  same_values : (k : Row) (parts : List Bag) → All (λ a. finished_value (group_columns args) a (with_key (group_columns args) args.keys k (flat_map (partial_rows args cols) parts))
      ≡ whole_value cols a (with_key cols args.keys k (flat_map (λ part. part) parts))) args.aggs
  same_values k parts i d l =
      let a = get_or args.aggs i d in
      ap (fitted a.kind) (ap (together a.kind) (brought k parts i d l) ∙ together_parts a.kind (looked_at_parts a k parts) ∙ ap (exact a.kind) (looked_at_all a k parts))

  -- grouped by parts and finished is grouped at once
  pub by_parts : (parts : List Bag) → finished args (group_columns args) (flat_map (partial_rows args cols) parts) ≡ grouped args cols (flat_map (λ part. part) parts)
  by_parts parts =
      let P = flat_map (partial_rows args cols) parts in
      let A = flat_map (λ (part : Bag). part) parts in
      ap (λ keys. rows_of_keys args (group_columns args) (finished_value (group_columns args)) keys P) (same_group_keys parts)
      ∙ map_each _ _ (λ k. group_row_same args _ _ k (same_values k parts)) (group_keys cols args.keys A)

  -- whatever the division, the partial rows finished are the groups
  pub finished_parts : (A P : Bag) (parts : List Bag) → IsPermutation (flat_map (λ part. part) parts) A → IsPermutation (flat_map (partial_rows args cols) parts) P
      → IsPermutation (grouped args cols A) (finished args (group_columns args) P)
  finished_parts A P parts whole made =
      IsPermutation-trans _ _ _ (grouped_permuted args cols A (flat_map (λ part. part) parts) (IsPermutation-sym _ _ whole))
      (IsPermutation-trans _ _ _ (same_permuted _ _ (sym (by_parts parts))) (finished_permuted args (group_columns args) _ P made))
