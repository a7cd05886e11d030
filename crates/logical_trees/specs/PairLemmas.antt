-- The pairs of a join block: which are a Join's own, and that a block is a join of its leaves.
use Rattle.std.proofs.Common.{◌≡◌, ℕ, true, List, ◌++◌, ◌⊎◌, inl, inr}
use Rattle.std.specs.Prelude.{Contains}
use Rattle.std.proofs.lemmas.List.Elements.{All-contains, Contains-append_left, Contains-append_right, Contains-append_cases}
use Rattle.std.proofs.lemmas.List.Sorted.{IsPermutation-refl}
use Rattle.arrayvec.specs.ArrayVec.{ArrayVec}
use Rattle.col_sets.specs.Sets.{has}
use Rattle.logical_trees.specs.declared.logic_op.LogicOp.TheVariants.{Join}
use Rattle.logical_trees.specs.Tree.{Expression, leaf, one, two, columns_of}
use Rattle.logical_trees.specs.Formed.{IsFormed}
use Rattle.logical_trees.specs.Blocks.{block_leaves, block_pairs, IsAcross, IsPairing, IsJoinOf, alone, both}
use Rattle.logical_trees.specs.ColumnLemmas.{into_union}
use Rattle.logical_trees.specs.LeafLemmas.{HasColumn}
use Rattle.logical_trees.specs.BlockLemmas.{pair_columns}

-- the equalities of a Join
abbrev Pairs : Type 0
Pairs = ArrayVec (ℕ × ℕ)

-- the pairs of a block that lie in a join of it are the join's
abbrev pub IsIn : List (ℕ × ℕ) → Expression → Type 0
IsIn pairs t = (a b : ℕ) → HasColumn a t → HasColumn b t → Contains pairs (a, b) → Contains (block_pairs t) (a, b)

-- the pairs of an expression are among these
abbrev pub HasPairs : List (ℕ × ℕ) → Expression → Type 0
HasPairs pairs t = (a b : ℕ) → Contains (block_pairs t) (a, b) → Contains pairs (a, b)

module _ (results : List (List ℕ)) where
  -- the sides of an equality of a Join
  pub join_sides : (on : Pairs) (t u : Expression) → IsFormed results (two (Join on) t u) → (a b : ℕ) → Contains on.items (a, b) → HasColumn a t × HasColumn b u
  join_sides on t u h a b m = All-contains (λ p. (has (columns_of t) p.0 ≡ true) × (has (columns_of u) p.1 ≡ true)) on.items (a, b) h.2.sides m

  module _ (on : Pairs) (t u : Expression) (formed : IsFormed results (two (Join on) t u)) where
    -- a pair of the block with a side in each child is the Join's own
    pub own_pair : (a b : ℕ) → HasColumn a t → HasColumn b u → Contains (block_pairs (two (Join on) t u)) (a, b) → Contains on.items (a, b)
    own_pair a b l r m = go (Contains-append_cases (block_pairs t) (block_pairs u ++ on.items) (a, b) m)
      where
        rest : Contains (block_pairs u) (a, b) ⊎ Contains on.items (a, b) → Contains on.items (a, b)
        rest (inl k) = absurd (formed.2.apart a l (pair_columns results u formed.1 a b k).0)
        rest (inr k) = k

        go : Contains (block_pairs t) (a, b) ⊎ Contains (block_pairs u ++ on.items) (a, b) → Contains on.items (a, b)
        go (inl k) = absurd (formed.2.apart b (pair_columns results t formed.0 a b k).1 r)
        go (inr k) = rest (Contains-append_cases (block_pairs u) on.items (a, b) k)

    -- and none has its left column on the right
    pub turned_pair : (a b : ℕ) → HasColumn a u → HasColumn b t → Contains (block_pairs (two (Join on) t u)) (a, b) → ⊥
    turned_pair a b l r m = go (Contains-append_cases (block_pairs t) (block_pairs u ++ on.items) (a, b) m)
      where
        rest : Contains (block_pairs u) (a, b) ⊎ Contains on.items (a, b) → ⊥
        rest (inl k) = formed.2.apart b r (pair_columns results u formed.1 a b k).1
        rest (inr k) = formed.2.apart a (join_sides on t u formed a b k).0 l

        go : Contains (block_pairs t) (a, b) ⊎ Contains (block_pairs u ++ on.items) (a, b) → ⊥
        go (inl k) = formed.2.apart a (pair_columns results t formed.0 a b k).0 l
        go (inr k) = rest (Contains-append_cases (block_pairs u) on.items (a, b) k)

  module _ (on : Pairs) (t u : Expression) (f : IsFormed results (two (Join on) t u)) (pairs : List (ℕ × ℕ)) (all : HasPairs pairs (two (Join on) t u)) (just : IsIn pairs (two (Join on) t u)) where
    wide : (c : ℕ) → HasColumn c t ⊎ HasColumn c u → HasColumn c (two (Join on) t u)
    wide c m = into_union results t u f.0 f.1 c m

    pub own_dealt : IsPairing pairs (columns_of t) (columns_of u) (Join on)
    own_dealt = (f.2.some, λ p. ((λ m. there p.0 p.1 m), λ m. back p.0 p.1 m))
      where
        there : (a b : ℕ) → Contains on.items (a, b) → IsAcross pairs (columns_of t) (columns_of u) (a, b)
        there a b m =
            let s = join_sides on t u f a b m in
            (s.0, s.1, inl (all a b (Contains-append_right (block_pairs t) (block_pairs u ++ on.items) (a, b) (Contains-append_right (block_pairs u) on.items (a, b) m))))

        back : (a b : ℕ) → IsAcross pairs (columns_of t) (columns_of u) (a, b) → Contains on.items (a, b)
        back a b m = go m.2
          where
            go : Contains pairs (a, b) ⊎ Contains pairs (b, a) → Contains on.items (a, b)
            go (inl n) = own_pair on t u f a b m.0 m.1 (just a b (wide a (inl m.0)) (wide b (inr m.1)) n)
            go (inr n) = absurd (turned_pair on t u f b a m.1 m.0 (just b a (wide b (inr m.1)) (wide a (inl m.0)) n))

    pub left_all : HasPairs pairs t
    left_all a b m = all a b (Contains-append_left (block_pairs t) (block_pairs u ++ on.items) (a, b) m)

    pub right_all : HasPairs pairs u
    right_all a b m = all a b (Contains-append_right (block_pairs t) (block_pairs u ++ on.items) (a, b) (Contains-append_left (block_pairs u) on.items (a, b) m))

    pub left_just : IsIn pairs t
    left_just a b x y m = go (Contains-append_cases (block_pairs t) (block_pairs u ++ on.items) (a, b) (just a b (wide a (inl x)) (wide b (inl y)) m))
      where
        rest : Contains (block_pairs u) (a, b) ⊎ Contains on.items (a, b) → Contains (block_pairs t) (a, b)
        rest (inl k) = absurd (f.2.apart a x (pair_columns results u f.1 a b k).0)
        rest (inr k) = absurd (f.2.apart b y (join_sides on t u f a b k).1)

        go : Contains (block_pairs t) (a, b) ⊎ Contains (block_pairs u ++ on.items) (a, b) → Contains (block_pairs t) (a, b)
        go (inl k) = k
        go (inr k) = rest (Contains-append_cases (block_pairs u) on.items (a, b) k)

    pub right_just : IsIn pairs u
    right_just a b x y m = go (Contains-append_cases (block_pairs t) (block_pairs u ++ on.items) (a, b) (just a b (wide a (inr x)) (wide b (inr y)) m))
      where
        rest : Contains (block_pairs u) (a, b) ⊎ Contains on.items (a, b) → Contains (block_pairs u) (a, b)
        rest (inl k) = k
        rest (inr k) = absurd (f.2.apart a (join_sides on t u f a b k).0 x)

        go : Contains (block_pairs t) (a, b) ⊎ Contains (block_pairs u ++ on.items) (a, b) → Contains (block_pairs u) (a, b)
        go (inl k) = absurd (f.2.apart a (pair_columns results t f.0 a b k).0 x)
        go (inr k) = rest (Contains-append_cases (block_pairs u) on.items (a, b) k)

  -- a formed expression is a join of the leaves of its block, by the pairs of any larger block that lie in it
  join_of_leaves : (pairs : List (ℕ × ℕ)) (t : Expression) → IsFormed results t → HasPairs pairs t → IsIn pairs t → IsJoinOf pairs (block_leaves t) t
  join_of_leaves pairs (two (Join on) t u) f all just =
      both (join_of_leaves pairs t f.0 (left_all on t u f pairs all just) (left_just on t u f pairs all just))
      (join_of_leaves pairs u f.1 (right_all on t u f pairs all just) (right_just on t u f pairs all just)) (IsPermutation-refl _) (own_dealt on t u f pairs all just)
  join_of_leaves pairs (two op t u) f all just = alone (two op t u)
  join_of_leaves pairs (one op t) f all just = alone (one op t)
  join_of_leaves pairs (leaf op) f all just = alone (leaf op)

  -- so it is a join of its own leaves by its own pairs
  pub own_join : (t : Expression) → IsFormed results t → IsJoinOf (block_pairs t) (block_leaves t) t
  own_join t f = join_of_leaves (block_pairs t) t f (λ a b m. m) (λ a b x y m. m)
