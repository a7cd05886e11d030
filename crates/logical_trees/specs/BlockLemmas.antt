-- The leaves and pairs of a join block that is formed: its leaves are formed and apart, and no pair lies in one leaf.
use Rattle.std.proofs.Common.{◌≡◌, ℕ, ◌<◌, ◌≤◌, true, false, cond, List, [], ◌∷◌, ◌++◌, count_by, subst, sym, arith, ◌⊎◌, inl, inr}
use Rattle.col_sets.specs.Sets.{has}
use Rattle.std.specs.Prelude.{Contains}
use Rattle.std.proofs.lemmas.List.Elements.{All-contains, Contains-append_cases}
use Rattle.col_sets.specs.Columns.{has_union, has_below}
use Rattle.structural_props.specs.Actions.{In}
use Rattle.logical_trees.specs.declared.logic_op.LogicOp.TheVariants.{Join}
use Rattle.logical_trees.specs.Tree.{Expression, leaf, one, two, columns_of}
use Rattle.logical_trees.specs.Formed.{IsFormed}
use Rattle.logical_trees.specs.Blocks.{block_leaves, block_pairs, chosen, IsJoinOf, SomeLeaf}
use Rattle.list_lemmas.specs.Counts.{count-cons}
use Rattle.logical_trees.specs.ColumnLemmas.{columns_set}
use Rattle.logical_trees.specs.LeafLemmas.{some_at, some_find, some_then, some_either, EachLeaf, each_both, HasColumn, AreApart, apart_both, chosen_in, chosen_apart}
use Rattle.logical_trees.specs.JoinLemmas.{IsNoneWithin, join_formed}

-- a column of some leaf of a block is one of the block
pub some_block_column : (t : Expression) (c : ℕ) → c < 128 → SomeLeaf (HasColumn c) (block_leaves t) → HasColumn c t
some_block_column (two (Join on) t u) c l h =
    has_union (columns_of t) (columns_of u) c l (go (some_block_column t c l) (some_block_column u c l) (some_either (HasColumn c) (block_leaves t) (block_leaves u) h))
  where
    go : (SomeLeaf (HasColumn c) (block_leaves t) → HasColumn c t) → (SomeLeaf (HasColumn c) (block_leaves u) → HasColumn c u)
        → SomeLeaf (HasColumn c) (block_leaves t) ⊎ SomeLeaf (HasColumn c) (block_leaves u) → HasColumn c t ⊎ HasColumn c u
    go left right (inl k) = inl (left k)
    go left right (inr k) = inr (right k)
some_block_column (two op t u) c l (inl h) = h
some_block_column (two op t u) c l (inr h) = absurd h
some_block_column (one op t) c l (inl h) = h
some_block_column (one op t) c l (inr h) = absurd h
some_block_column (leaf op) c l (inl h) = h
some_block_column (leaf op) c l (inr h) = absurd h

-- an expression's list of one has no other leaf
only : (P : Expression → Type 0) (t u : Expression) → P t → In u (t ∷ []) → P u
only P t u p (inl e) = subst P (sym e) p
only P t u p (inr m) = absurd m

-- one leaf is apart
one_apart : (c : ℕ) (t : Expression) → count_by (λ u. has (columns_of u) c) (t ∷ []) ≤ 1
one_apart c t =
    let e = count-cons (λ u. has (columns_of u) c) t [] in
    let l : cond {A = ℕ} (has (columns_of t) c) 1 0 ≤ 1 = elim (has (columns_of t) c) as (λ b. cond {A = ℕ} b 1 0 ≤ 1) [ true ↦ omega arith | false ↦ omega arith ] in
    omega arith

-- no list holds nothing
none_contained : (p : ℕ × ℕ) → Contains [] p → ⊥
none_contained p m = let l : m.0 < 0 = m.1 in omega arith

-- a pair of three lists
three_parts : (xs ys zs : List (ℕ × ℕ)) (a b : ℕ) → Contains (xs ++ (ys ++ zs)) (a, b) → Contains xs (a, b) ⊎ (Contains ys (a, b) ⊎ Contains zs (a, b))
three_parts xs ys zs a b m = go (Contains-append_cases xs (ys ++ zs) (a, b) m)
  where
    go : Contains xs (a, b) ⊎ Contains (ys ++ zs) (a, b) → Contains xs (a, b) ⊎ (Contains ys (a, b) ⊎ Contains zs (a, b))
    go (inl k) = inl k
    go (inr k) = inr (Contains-append_cases ys zs (a, b) k)

module _ (results : List (List ℕ)) where
  -- each leaf is formed
  pub block_formed : (t : Expression) → IsFormed results t → EachLeaf (IsFormed results) (block_leaves t)
  block_formed (two (Join on) t u) h v m =
      each_both (IsFormed results) (block_leaves t) (block_leaves u) (block_formed t h.0) (block_formed u h.1) v m
  block_formed (two op t u) h v m = only (IsFormed results) (two op t u) v h m
  block_formed (one op t) h v m = only (IsFormed results) (one op t) v h m
  block_formed (leaf op) h v m = only (IsFormed results) (leaf op) v h m

  -- a column of some leaf is one of the block
  pub some_block : (t : Expression) → IsFormed results t → (c : ℕ) → SomeLeaf (HasColumn c) (block_leaves t) → HasColumn c t
  some_block t h c k =
      let m = some_find (HasColumn c) (block_leaves t) k in
      some_block_column t c (has_below (columns_of m.0) (columns_set results m.0 (block_formed t h m.0 m.1)) c m.2) k

  -- the leaves are apart
  pub block_apart : (t : Expression) → IsFormed results t → AreApart (block_leaves t)
  block_apart (two (Join on) t u) h c =
      apart_both (block_leaves t) (block_leaves u) (block_apart t h.0) (block_apart u h.1)
      (λ d l r. h.2.apart d (some_block t h.0 d l) (some_block u h.1 d r)) c
  block_apart (two op t u) h c = one_apart c (two op t u)
  block_apart (one op t) h c = one_apart c (one op t)
  block_apart (leaf op) h c = one_apart c (leaf op)

  -- the columns of a pair are columns of the block
  pub pair_columns : (t : Expression) → IsFormed results t → (a b : ℕ) → Contains (block_pairs t) (a, b) → HasColumn a t × HasColumn b t
  pair_columns (two (Join on) t u) h a b m = go (pair_columns t h.0 a b) (pair_columns u h.1 a b) (three_parts (block_pairs t) (block_pairs u) on.items a b m)
    where
      left : (c : ℕ) → HasColumn c t → HasColumn c (two (Join on) t u)
      left c k = has_union (columns_of t) (columns_of u) c (has_below (columns_of t) (columns_set results t h.0) c k) (inl k)

      right : (c : ℕ) → HasColumn c u → HasColumn c (two (Join on) t u)
      right c k = has_union (columns_of t) (columns_of u) c (has_below (columns_of u) (columns_set results u h.1) c k) (inr k)

      go : (Contains (block_pairs t) (a, b) → HasColumn a t × HasColumn b t) → (Contains (block_pairs u) (a, b) → HasColumn a u × HasColumn b u)
          → Contains (block_pairs t) (a, b) ⊎ (Contains (block_pairs u) (a, b) ⊎ Contains on.items (a, b)) → HasColumn a (two (Join on) t u) × HasColumn b (two (Join on) t u)
      go first second (inl k) = let p = first k in (left a p.0, left b p.1)
      go first second (inr (inl k)) = let p = second k in (right a p.0, right b p.1)
      go first second (inr (inr k)) = let p = All-contains (λ p. (has (columns_of t) p.0 ≡ true) × (has (columns_of u) p.1 ≡ true)) on.items (a, b) h.2.sides k in (left a p.0, right b p.1)
  pair_columns (two op t u) h a b m = absurd (none_contained (a, b) m)
  pair_columns (one op t) h a b m = absurd (none_contained (a, b) m)
  pair_columns (leaf op) h a b m = absurd (none_contained (a, b) m)

  -- no pair lies in one leaf
  pub block_none_within : (t : Expression) → IsFormed results t → IsNoneWithin (block_pairs t) (block_leaves t)
  block_none_within (two (Join on) t u) h a b m k =
      go (block_none_within t h.0 a b) (block_none_within u h.1 a b) (three_parts (block_pairs t) (block_pairs u) on.items a b m) (some_either (λ v. HasColumn a v × HasColumn b v) (block_leaves t) (block_leaves u) k)
    where
      first : (v : Expression) → SomeLeaf (λ v. HasColumn a v × HasColumn b v) (block_leaves v) → SomeLeaf (HasColumn a) (block_leaves v)
      first v = some_then (λ v. HasColumn a v × HasColumn b v) (HasColumn a) (block_leaves v) (λ w n p. p.0)

      second : (v : Expression) → SomeLeaf (λ v. HasColumn a v × HasColumn b v) (block_leaves v) → SomeLeaf (HasColumn b) (block_leaves v)
      second v = some_then (λ v. HasColumn a v × HasColumn b v) (HasColumn b) (block_leaves v) (λ w n p. p.1)

      go : (Contains (block_pairs t) (a, b) → SomeLeaf (λ v. HasColumn a v × HasColumn b v) (block_leaves t) → ⊥)
          → (Contains (block_pairs u) (a, b) → SomeLeaf (λ v. HasColumn a v × HasColumn b v) (block_leaves u) → ⊥)
          → Contains (block_pairs t) (a, b) ⊎ (Contains (block_pairs u) (a, b) ⊎ Contains on.items (a, b))
          → SomeLeaf (λ v. HasColumn a v × HasColumn b v) (block_leaves t) ⊎ SomeLeaf (λ v. HasColumn a v × HasColumn b v) (block_leaves u) → ⊥
      go f g (inl p) (inl q) = f p q
      go f g (inl p) (inr q) = h.2.apart a (pair_columns t h.0 a b p).0 (some_block u h.1 a (first u q))
      go f g (inr (inl p)) (inl q) = h.2.apart a (some_block t h.0 a (first t q)) (pair_columns u h.1 a b p).0
      go f g (inr (inl p)) (inr q) = g p q
      go f g (inr (inr p)) (inl q) = h.2.apart b (some_block t h.0 b (second t q)) (sides p).1
        where
          sides : Contains on.items (a, b) → HasColumn a t × HasColumn b u
          sides p = All-contains (λ p. (has (columns_of t) p.0 ≡ true) × (has (columns_of u) p.1 ≡ true)) on.items (a, b) h.2.sides p
      go f g (inr (inr p)) (inr q) = h.2.apart a (sides p).0 (some_block u h.1 a (first u q))
        where
          sides : Contains on.items (a, b) → HasColumn a t × HasColumn b u
          sides p = All-contains (λ p. (has (columns_of t) p.0 ≡ true) × (has (columns_of u) p.1 ≡ true)) on.items (a, b) h.2.sides p
  block_none_within (two op t u) h a b m k = none_contained (a, b) m
  block_none_within (one op t) h a b m k = none_contained (a, b) m
  block_none_within (leaf op) h a b m k = none_contained (a, b) m

  -- the same of chosen leaves
  pub chosen_formed : (mask : ℕ) (t : Expression) → IsFormed results t → EachLeaf (IsFormed results) (chosen mask (block_leaves t))
  chosen_formed mask t h u m = block_formed t h u (chosen_in mask (block_leaves t) u m)

  pub chosen_none_within : (mask : ℕ) (t : Expression) → IsFormed results t → IsNoneWithin (block_pairs t) (chosen mask (block_leaves t))
  chosen_none_within mask t h a b m k =
      let P : Expression → Type 0 = λ v. HasColumn a v × HasColumn b v in
      let q = some_find P (chosen mask (block_leaves t)) k in
      block_none_within t h a b m (some_at P (block_leaves t) q.0 (chosen_in mask (block_leaves t) q.0 q.1) q.2)

  -- a join of chosen leaves is formed
  pub chosen_join_formed : (mask : ℕ) (t u : Expression) → IsFormed results t → IsJoinOf (block_pairs t) (chosen mask (block_leaves t)) u → IsFormed results u
  chosen_join_formed mask t u h j =
      join_formed (block_pairs t) results (chosen mask (block_leaves t)) u j (chosen_formed mask t h) (chosen_apart mask (block_leaves t) (block_apart t h))
