-- A join of leaves has the facts of the leaves, in whatever order they are joined.
use Rattle.std.proofs.Common.{◌≡◌, ℕ, ◌<◌, true, List, [], ◌∷◌, ◌++◌, refl, sym, ◌∙◌, subst, ◌⊎◌, inl, inr}
use Rattle.std.specs.Prelude.{Contains}
use Rattle.std.proofs.lemmas.List.Sorted.{IsPermutation-sym}
use Rattle.std.proofs.lemmas.List.Elements.{All-contains_itself}
use Rattle.col_sets.specs.Sets.{has, union}
use Rattle.col_sets.specs.Columns.{columns_where-set, sets_same, has_below, union_has, has_union}
use Rattle.col_sets.specs.Tests.{same_tests}
use Rattle.fd_closure.specs.declared.facts.Facts.{Facts}
use Rattle.fd_closure.specs.Known.{by_of}
use Rattle.logical_trees.specs.declared.logic_op.LogicOp.TheVariants.{Join}
use Rattle.logical_trees.specs.Tree.{Expression, two, columns_of}
use Rattle.logical_trees.specs.Formed.{IsFormed}
use Rattle.logical_dag.specs.Facts.{IsLinked, stated, itself, turned, chained, IsConstant, Determines, AreEqual, AreFactsOf}
use Rattle.logical_trees.specs.Blocks.{IsAcross, IsJoinOf, alone, both, SomeLeaf, columns_of_all}
use Rattle.logical_dag.specs.BlockFacts.{IsInside, AreFactsOfAll}
use Rattle.logical_trees.specs.JoinLemmas.{IsNoneWithin, some_one, from_some, some_into, join_set, join_columns}
use Rattle.logical_dag.proofs.Classes.{linked_bind}
use Rattle.logical_dag.proofs.Links.{linked_within, linked_more}
use Rattle.logical_trees.specs.LeafLemmas.{some_left, some_right, some_either, some_permuted, EachLeaf, each_left, each_right, each_permuted, HasSet, HasColumn, all_columns_set, all_columns_some, some_all_columns, AreApart, apart_left, apart_right, apart_across, apart_permuted}

module _ (pairs : List (ℕ × ℕ)) where
  module _ (shared : List Facts) where
    -- ---- equal columns

    -- equal in some leaf, or a pair that lies inside
    abbrev pub EqualInSome : List Expression → List ℕ → ℕ → ℕ → Type 0
    EqualInSome leaves cols a b = SomeLeaf (λ t. AreEqual shared t a b) leaves ⊎ IsInside pairs cols a b

    -- what is equal in one side is so by all leaves
    wider : (side leaves : List Expression) (t : Expression) (cols : List ℕ) → ((P : Expression → Type 0) → SomeLeaf P side → SomeLeaf P leaves)
        → ((c : ℕ) → HasColumn c t → has cols c ≡ true) → (a b : ℕ) → IsLinked (EqualInSome side (columns_of t)) a b → IsLinked (EqualInSome leaves cols) a b
    wider side leaves t cols into over = linked_more (EqualInSome side (columns_of t)) (EqualInSome leaves cols) each
      where
        each : (c d : ℕ) → EqualInSome side (columns_of t) c d → EqualInSome leaves cols c d
        each c d (inl m) = inl (into (λ t. AreEqual shared t c d) m)
        each c d (inr m) = inr (over c m.0, over d m.1, m.2)

    -- columns that are equal in a join are so by its leaves and the pairs inside
    pub join_equal_some : (leaves : List Expression) (t : Expression) → IsJoinOf pairs leaves t → EachLeaf HasSet leaves → (c d : ℕ) → AreEqual shared t c d
        → IsLinked (EqualInSome leaves (columns_of t)) c d
    join_equal_some leaves v (alone t) sets c d e = stated (inl (inl e))
    join_equal_some leaves v (both {before = before} {beside = beside} {op = Join on} {t = t} {u = u} j k p h) sets c d e =
        let all : EachLeaf HasSet (before ++ beside) = each_permuted HasSet (before ++ beside) leaves p sets in
        let first : EachLeaf HasSet before = each_left HasSet before beside all in
        let second : EachLeaf HasSet beside = each_right HasSet before beside all in
        linked_bind (λ a b. AreEqual shared t a b ⊎ (AreEqual shared u a b ⊎ Contains on.items (a, b))) (EqualInSome leaves (union (columns_of t) (columns_of u)))
        (each (join_set pairs before t j first) (join_set pairs beside u k second) (join_equal_some before t j first) (join_equal_some beside u k second)) c d e
      where
        into : List ℕ
        into = union (columns_of t) (columns_of u)

        left : HasSet t → (c : ℕ) → HasColumn c t → has into c ≡ true
        left set c m = has_union (columns_of t) (columns_of u) c (has_below (columns_of t) set c m) (inl m)

        right : HasSet u → (c : ℕ) → HasColumn c u → has into c ≡ true
        right set c m = has_union (columns_of t) (columns_of u) c (has_below (columns_of u) set c m) (inr m)

        each : HasSet t → HasSet u → ((a b : ℕ) → AreEqual shared t a b → IsLinked (EqualInSome before (columns_of t)) a b)
            → ((a b : ℕ) → AreEqual shared u a b → IsLinked (EqualInSome beside (columns_of u)) a b)
            → (a b : ℕ) → AreEqual shared t a b ⊎ (AreEqual shared u a b ⊎ Contains on.items (a, b)) → IsLinked (EqualInSome leaves into) a b
        each s r by_left by_right a b (inl m) =
            wider before leaves t into (λ P n. some_permuted P (before ++ beside) leaves p (some_left P before beside n)) (left s) a b (by_left a b m)
        each s r by_left by_right a b (inr (inl m)) =
            wider beside leaves u into (λ P n. some_permuted P (before ++ beside) leaves p (some_right P before beside n)) (right r) a b (by_right a b m)
        each s r by_left by_right a b (inr (inr m)) = across ((h.1 (a, b)).0 m)
          where
            across : IsAcross pairs (columns_of t) (columns_of u) (a, b) → IsLinked (EqualInSome leaves into) a b
            across n = go n.2
              where
                go : Contains pairs (a, b) ⊎ Contains pairs (b, a) → IsLinked (EqualInSome leaves into) a b
                go (inl i) = stated (inr (left s a n.0, right r b n.1, i))
                go (inr i) = turned (stated (inr (right r b n.1, left s a n.0, i)))
    join_equal_some leaves v (both {op = op} j k p h) sets c d e = absurd h

    -- and the other way round, where no pair lies in one leaf
    pub some_join_equal : (leaves : List Expression) (t : Expression) → IsJoinOf pairs leaves t → IsNoneWithin pairs leaves → (c d : ℕ)
        → IsLinked (EqualInSome leaves (columns_of t)) c d → AreEqual shared t c d
    some_join_equal leaves v (alone t) none = linked_within (EqualInSome (t ∷ []) (columns_of t)) (AreEqual shared t) each (λ c. itself) (λ c d l. turned l) (λ c d e l m. chained l m)
      where
        each : (a b : ℕ) → EqualInSome (t ∷ []) (columns_of t) a b → AreEqual shared t a b
        each a b (inl m) = some_one (λ u. AreEqual shared u a b) t m
        each a b (inr m) = absurd (none a b m.2 (inl (m.0, m.1)))
    some_join_equal leaves v (both {before = before} {beside = beside} {op = Join on} {t = t} {u = u} j k p h) none =
        linked_within (EqualInSome leaves into) (AreEqual shared (two (Join on) t u))
        (each (some_join_equal before t j (λ a b m n. none a b m (left_too (λ w. HasColumn a w × HasColumn b w) n))) (some_join_equal beside u k (λ a b m n. none a b m (right_too (λ w. HasColumn a w × HasColumn b w) n))))
        (λ c. itself) (λ c d l. turned l) (λ c d e l m. chained l m)
      where
        into : List ℕ
        into = union (columns_of t) (columns_of u)

        left_too : (P : Expression → Type 0) → SomeLeaf P before → SomeLeaf P leaves
        left_too P n = some_permuted P (before ++ beside) leaves p (some_left P before beside n)

        right_too : (P : Expression → Type 0) → SomeLeaf P beside → SomeLeaf P leaves
        right_too P n = some_permuted P (before ++ beside) leaves p (some_right P before beside n)

        each : ((a b : ℕ) → IsLinked (EqualInSome before (columns_of t)) a b → AreEqual shared t a b)
            → ((a b : ℕ) → IsLinked (EqualInSome beside (columns_of u)) a b → AreEqual shared u a b)
            → (a b : ℕ) → EqualInSome leaves into a b → AreEqual shared (two (Join on) t u) a b
        each by_left by_right a b (inl m) = go (some_either (λ w. AreEqual shared w a b) before beside (some_permuted (λ w. AreEqual shared w a b) leaves (before ++ beside) (IsPermutation-sym _ _ p) m))
          where
            go : SomeLeaf (λ w. AreEqual shared w a b) before ⊎ SomeLeaf (λ w. AreEqual shared w a b) beside → AreEqual shared (two (Join on) t u) a b
            go (inl n) = stated (inl (by_left a b (stated (inl n))))
            go (inr n) = stated (inr (inl (by_right a b (stated (inl n)))))
        each by_left by_right a b (inr m) = go (union_has (columns_of t) (columns_of u) a m.0) (union_has (columns_of t) (columns_of u) b m.1)
          where
            go : HasColumn a t ⊎ HasColumn a u → HasColumn b t ⊎ HasColumn b u → AreEqual shared (two (Join on) t u) a b
            go (inl i) (inl n) = stated (inl (by_left a b (stated (inr (i, n, m.2)))))
            go (inr i) (inr n) = stated (inr (inl (by_right a b (stated (inr (i, n, m.2))))))
            go (inl i) (inr n) = stated (inr (inr ((h.1 (a, b)).1 (i, n, inl m.2))))
            go (inr i) (inl n) = turned (stated (inr (inr ((h.1 (b, a)).1 (n, i, inr m.2)))))
    some_join_equal leaves v (both {op = op} j k p h) none = absurd h

    -- ---- all facts

    -- the facts of the leaves and the pairs are the facts of each join of them
    pub join_facts : (leaves : List Expression) (t : Expression) (f : Facts) → IsJoinOf pairs leaves t → EachLeaf HasSet leaves → IsNoneWithin pairs leaves
        → AreFactsOfAll shared pairs leaves f → AreFactsOf shared t f
    join_facts leaves t f j sets none known = record {
      columns = known.columns ∙ sym same;
      constants = λ c l. (λ h. some_into pairs (λ u. IsConstant shared u c) (λ on t u h. h) leaves t j ((known.constants c l).0 h), λ h. (known.constants c l).1 (from_some pairs (λ u. IsConstant shared u c) (λ on t u h. h) leaves t j h));
      stated = λ c l h. some_into pairs (λ u. Determines shared u (by_of f c) c) (λ on t u h. h) leaves t j (known.stated c l h);
      all = λ s c h. known.all s c (from_some pairs (λ u. Determines shared u s c) (λ on t u h. h) leaves t j h);
      equal = λ c d l m. (
        λ h. some_join_equal leaves t j none c d (subst (λ (cols : List ℕ). IsLinked (EqualInSome leaves cols) c d) cols ((known.equal c d l m).0 h)),
        λ h. (known.equal c d l m).1 (subst (λ (cols : List ℕ). IsLinked (EqualInSome leaves cols) c d) (sym cols) (join_equal_some leaves t j sets c d h)),
      );
    }
      where
        same : columns_of t ≡ columns_of_all leaves
        same = join_columns pairs leaves t j sets

        cols : f.columns ≡ columns_of t
        cols = known.columns ∙ sym same
