-- A join of leaves has the columns of the leaves, in whatever order they are joined, and is formed where they are formed and apart.
use Rattle.std.proofs.Common.{◌≡◌, ℕ, ◌<◌, true, List, [], ◌∷◌, ◌++◌, refl, ◌⊎◌, inl, inr}
use Rattle.std.specs.Prelude.{Contains}
use Rattle.std.proofs.lemmas.List.Sorted.{IsPermutation-sym}
use Rattle.std.proofs.lemmas.List.Elements.{All-contains_itself}
use Rattle.col_sets.specs.Sets.{has}
use Rattle.col_sets.specs.Columns.{columns_where-set, sets_same, union_has, has_union}
use Rattle.col_sets.specs.Tests.{same_tests}
use Rattle.logical_trees.specs.declared.logic_op.LogicOp.TheVariants.{Join}
use Rattle.logical_trees.specs.Tree.{Expression, two, columns_of}
use Rattle.logical_trees.specs.Formed.{IsFormed}
use Rattle.logical_trees.specs.Blocks.{IsJoinOf, alone, both, SomeLeaf, columns_of_all}
use Rattle.logical_trees.specs.LeafLemmas.{some_left, some_right, some_either, some_permuted, EachLeaf, each_left, each_right, each_permuted, HasSet, HasColumn, all_columns_set, all_columns_some, some_all_columns, AreApart, apart_left, apart_right, apart_across, apart_permuted}

-- no pair has both columns in one leaf
abbrev pub IsNoneWithin : List (ℕ × ℕ) → List Expression → Type 0
IsNoneWithin pairs leaves = (a b : ℕ) → Contains pairs (a, b) → SomeLeaf (λ t. HasColumn a t × HasColumn b t) leaves → ⊥

-- a leaf's list of one has no other leaf
pub some_one : (P : Expression → Type 0) (t : Expression) → SomeLeaf P (t ∷ []) → P t
some_one P t (inl h) = h
some_one P t (inr h) = absurd h

module _ (pairs : List (ℕ × ℕ)) where
  -- ---- what a join has from its leaves

  -- a property that a Join has from its sides comes from some leaf
  pub from_some : (Q : Expression → Type 0) → ((on : _) (t u : Expression) → Q (two (Join on) t u) → Q t ⊎ Q u)
      → (leaves : List Expression) (t : Expression) → IsJoinOf pairs leaves t → Q t → SomeLeaf Q leaves
  from_some Q split leaves v (alone t) q = inl q
  from_some Q split leaves v (both {before = before} {beside = beside} {op = Join on} {t = t} {u = u} j k p h) q =
      some_permuted Q (before ++ beside) leaves p (go (from_some Q split before t j) (from_some Q split beside u k) (split on t u q))
    where
      go : (Q t → SomeLeaf Q before) → (Q u → SomeLeaf Q beside) → Q t ⊎ Q u → SomeLeaf Q (before ++ beside)
      go left right (inl m) = some_left Q before beside (left m)
      go left right (inr m) = some_right Q before beside (right m)
  from_some Q split leaves v (both {op = op} j k p h) q = absurd h

  -- and what some leaf has the join has, where a Join has it from its sides
  pub some_into : (Q : Expression → Type 0) → ((on : _) (t u : Expression) → Q t ⊎ Q u → Q (two (Join on) t u))
      → (leaves : List Expression) (t : Expression) → IsJoinOf pairs leaves t → SomeLeaf Q leaves → Q t
  some_into Q join leaves v (alone t) q = some_one Q t q
  some_into Q join leaves v (both {before = before} {beside = beside} {op = Join on} {t = t} {u = u} j k p h) q =
      join on t u (go (some_into Q join before t j) (some_into Q join beside u k) (some_either Q before beside (some_permuted Q leaves (before ++ beside) (IsPermutation-sym _ _ p) q)))
    where
      go : (SomeLeaf Q before → Q t) → (SomeLeaf Q beside → Q u) → SomeLeaf Q before ⊎ SomeLeaf Q beside → Q t ⊎ Q u
      go left right (inl m) = inl (left m)
      go left right (inr m) = inr (right m)
  some_into Q join leaves v (both {op = op} j k p h) q = absurd h

  -- the columns of a join are a set
  pub join_set : (leaves : List Expression) (t : Expression) → IsJoinOf pairs leaves t → EachLeaf HasSet leaves → HasSet t
  join_set leaves v (alone t) sets = sets t (inl refl)
  join_set leaves v (both {op = Join on} j k p h) sets = columns_where-set _
  join_set leaves v (both {op = op} j k p h) sets = absurd h

  -- they are those of the leaves
  pub join_column_some : (leaves : List Expression) (t : Expression) → IsJoinOf pairs leaves t → (c : ℕ) → HasColumn c t → SomeLeaf (HasColumn c) leaves
  join_column_some leaves t j c = from_some (HasColumn c) (λ on t u. union_has (columns_of t) (columns_of u) c) leaves t j

  pub some_join_column : (leaves : List Expression) (t : Expression) → IsJoinOf pairs leaves t → (c : ℕ) → c < 128 → SomeLeaf (HasColumn c) leaves → HasColumn c t
  some_join_column leaves t j c l = some_into (HasColumn c) (λ on t u. has_union (columns_of t) (columns_of u) c l) leaves t j

  pub join_columns : (leaves : List Expression) (t : Expression) → IsJoinOf pairs leaves t → EachLeaf HasSet leaves → columns_of t ≡ columns_of_all leaves
  join_columns leaves t j sets =
      sets_same (columns_of t) (columns_of_all leaves) (join_set leaves t j sets) (all_columns_set leaves)
      (λ c l. same_tests _ _ (λ h. some_all_columns leaves c l (join_column_some leaves t j c h)) (λ h. some_join_column leaves t j c l (all_columns_some leaves c h)))

  -- a join of leaves that are formed and apart is formed
  pub join_formed : (results : List (List ℕ)) (leaves : List Expression) (t : Expression) → IsJoinOf pairs leaves t → EachLeaf (IsFormed results) leaves → AreApart leaves → IsFormed results t
  join_formed results leaves v (alone t) formed apart = formed t (inl refl)
  join_formed results leaves v (both {before = before} {beside = beside} {op = Join on} {t = t} {u = u} j k p h) formed apart =
      let all : EachLeaf (IsFormed results) (before ++ beside) = each_permuted (IsFormed results) (before ++ beside) leaves p formed in
      let still : AreApart (before ++ beside) = apart_permuted (before ++ beside) leaves p apart in (
        join_formed results before t j (each_left (IsFormed results) before beside all) (apart_left before beside still),
        join_formed results beside u k (each_right (IsFormed results) before beside all) (apart_right before beside still),
        record {
          apart = λ c l r. apart_across before beside still c (join_column_some before t j c l) (join_column_some beside u k c r);
          some = h.0;
          sides = λ i d l. let a = (h.1 _).0 (All-contains_itself on.items i d l) in (a.0, a.1);
        },
      )
  join_formed results leaves v (both {op = op} j k p h) formed apart = absurd h
