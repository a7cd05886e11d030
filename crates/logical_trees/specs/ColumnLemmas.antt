-- The columns of an expression are a set; columns of a set by their place.
use Rattle.std.proofs.Common.{◌≡◌, ◌≢◌, ℕ, zero, suc, ◌+◌, ◌<◌, ◌≤◌, Bool, true, false, List, [], ◌∷◌, refl, sym, ap, ◌∙◌, subst, arith, ◌⊎◌, inl, inr, nat_lt, Option, Some, None, slice_get}
use Rattle.std.specs.List.{filter, range_with_len}
use Rattle.std.proofs.lemmas.Bool.Decides.{nat_tests}
use Rattle.col_sets.specs.Sets.{has, columns_where, union, rank, IsColumnSet}
use Rattle.col_sets.specs.Columns.{inside, has-filter, columns_where-set, sets_same, has_below, has_union, union_has}
use Rattle.col_sets.specs.Tests.{both, or_left, or_right, to_test, same_tests}
use Rattle.logical_trees.specs.declared.logic_op.LogicOp.TheVariants.{Ref, Project, Group, Process, Reduce, Combine, Partial, Finish}
use Rattle.logical_trees.specs.Tree.{Expression, leaf, one, two, columns_of}
use Rattle.logical_trees.specs.Formed.{IsFormed}

-- a column at a place of a list is in it
pub has_at : (s : List ℕ) (i c : ℕ) → slice_get s i ≡ Some c → has s c ≡ true
has_at [] i c h = absurd (cc)
has_at (d ∷ s) zero c h = let e : d ≡ c = cc in or_left _ _ (to_test d c e)
has_at (d ∷ s) (suc i) c h = or_right _ _ (has_at s i c h)

-- columns above a number are not below it
rank_above : (p : ℕ → Bool) (n a c : ℕ) → c ≤ a → rank (filter p (range_with_len a n)) c ≡ 0
rank_above p zero a c l = refl
rank_above p (suc n) a c l = go (rank_above p n (a + 1) c (omega arith)) (p a) refl
  where
    past : nat_lt a c ≡ false
    past = grind (arith, nat_tests)

    go : rank (filter p (range_with_len (a + 1) n)) c ≡ 0 → (b : Bool) → p a ≡ b → rank (filter p (range_with_len a (suc n))) c ≡ 0
    go more true e = rw (e, past) more
    go more false e = rw e more

-- a column of a range that passes has as many below it as its place says
range_rank : (p : ℕ → Bool) (n a i c : ℕ) → slice_get (filter p (range_with_len a n)) i ≡ Some c → rank (filter p (range_with_len a n)) c ≡ i
range_rank p zero a i c h = absurd (cc)
range_rank p (suc n) a i c h = go (range_rank p n (a + 1)) (p a) refl i h
  where
    rest : List ℕ
    rest = filter p (range_with_len (a + 1) n)

    later : (j : ℕ) → slice_get rest j ≡ Some c → nat_lt a c ≡ true
    later j k = beyond (both (inside (a + 1) n c) (p c) (sym (has-filter p c n (a + 1)) ∙ has_at rest j c k)).0
      where
        beyond : inside (a + 1) n c ≡ true → nat_lt a c ≡ true
        beyond k = grind (arith, nat_tests)

    go : ((j d : ℕ) → slice_get rest j ≡ Some d → rank rest d ≡ j) → (b : Bool) → p a ≡ b → (i : ℕ) → slice_get (filter p (range_with_len a (suc n))) i ≡ Some c
        → rank (filter p (range_with_len a (suc n))) c ≡ i
    go more true e zero h =
        let k : slice_get (a ∷ rest) 0 ≡ Some c = (rw e at h) in
        let same : a ≡ c = cc in
        let past : nat_lt a c ≡ false = grind (arith, nat_tests) in
        rw (e, past) (rank_above p n (a + 1) c (omega arith))
    go more true e (suc j) h =
        let k : slice_get rest j ≡ Some c = (rw e at h) in
        let above : nat_lt a c ≡ true = later j k in
        rw (e, above) (ap suc (more j c k))
    go more false e i h = let k : slice_get rest i ≡ Some c = (rw e at h) in rw e (more i c k)

-- as many columns of a set are below one of them as its place says
pub rank_at : (s : List ℕ) (i c : ℕ) → IsColumnSet s → slice_get s i ≡ Some c → rank s c ≡ i
unfolding columns_where
rank_at s i c set h = subst (λ (t : List ℕ). slice_get t i ≡ Some c → rank t c ≡ i) set (range_rank (has s) 128 0 i c) h

-- a place that no column has is past the set's end
pub no_column : (s : List ℕ) (i : ℕ) → IsColumnSet s → ((c : ℕ) → c < 128 → has s c ≡ true → rank s c ≢ i) → None ≡ slice_get s i
no_column s i set h = go (slice_get s i) refl
  where
    go : (o : Option ℕ) → slice_get s i ≡ o → None ≡ o
    go None e = refl
    go (Some c) e = let there = has_at s i c e in absurd (h c (has_below s set c there) there (rank_at s i c set e))

-- the columns of an expression are a set
pub columns_set : (results : List (List ℕ)) (t : Expression) → IsFormed results t → IsColumnSet (columns_of t)
columns_set results (leaf (Ref shared cols)) h = h.0
columns_set results (leaf op) h = h
columns_set results (one (Project items cols) t) h = h.1.0
columns_set results (one (Group args) t) h = columns_where-set _
columns_set results (one (Partial args) t) h = columns_where-set _
columns_set results (one (Finish args) t) h = columns_where-set _
columns_set results (one (Process call) t) h = h.1.set
columns_set results (one (Reduce call on presort) t) h = h.1.0.set
columns_set results (one op t) h = columns_set results t h.0
columns_set results (two (Combine call on left right) t u) h = h.2.0.set
columns_set results (two op t u) h = columns_where-set _

-- a column of either side is one of the union
pub into_union : (results : List (List ℕ)) (t u : Expression) → IsFormed results t → IsFormed results u → (c : ℕ) → (has (columns_of t) c ≡ true) ⊎ (has (columns_of u) c ≡ true)
    → has (union (columns_of t) (columns_of u)) c ≡ true
into_union results t u h k c (inl m) = has_union _ _ c (has_below _ (columns_set results t h) c m) (inl m)
into_union results t u h k c (inr m) = has_union _ _ c (has_below _ (columns_set results u k) c m) (inr m)

-- the union does not see which side is first
pub union_turned : (s t : List ℕ) → union s t ≡ union t s
union_turned s t = sets_same (union s t) (union t s) (columns_where-set _) (columns_where-set _) (λ c l. same_tests _ _ (turn s t c l) (turn t s c l))
  where
    turn : (s t : List ℕ) (c : ℕ) → c < 128 → has (union s t) c ≡ true → has (union t s) c ≡ true
    turn s t c l h = go (union_has s t c h)
      where
        go : (has s c ≡ true) ⊎ (has t c ≡ true) → has (union t s) c ≡ true
        go (inl k) = has_union t s c l (inr k)
        go (inr k) = has_union t s c l (inl k)

-- nor how they are grouped
pub union_grouped : (s t u : List ℕ) → IsColumnSet s → IsColumnSet t → IsColumnSet u → union (union s t) u ≡ union s (union t u)
union_grouped s t u p q r = sets_same (union (union s t) u) (union s (union t u)) (columns_where-set _) (columns_where-set _) (λ c l. same_tests _ _ (there c) (back c))
  where
    low : (c : ℕ) → has s c ≡ true → has (union s (union t u)) c ≡ true
    low c k = has_union s (union t u) c (has_below s p c k) (inl k)

    there : (c : ℕ) → has (union (union s t) u) c ≡ true → has (union s (union t u)) c ≡ true
    there c h = go (union_has (union s t) u c h)
      where
        inner : (has s c ≡ true) ⊎ (has t c ≡ true) → has (union s (union t u)) c ≡ true
        inner (inl k) = low c k
        inner (inr k) = let l = has_below t q c k in has_union s (union t u) c l (inr (has_union t u c l (inl k)))

        go : (has (union s t) c ≡ true) ⊎ (has u c ≡ true) → has (union s (union t u)) c ≡ true
        go (inl k) = inner (union_has s t c k)
        go (inr k) = let l = has_below u r c k in has_union s (union t u) c l (inr (has_union t u c l (inr k)))

    back : (c : ℕ) → has (union s (union t u)) c ≡ true → has (union (union s t) u) c ≡ true
    back c h = go (union_has s (union t u) c h)
      where
        inner : (has t c ≡ true) ⊎ (has u c ≡ true) → has (union (union s t) u) c ≡ true
        inner (inl k) = let l = has_below t q c k in has_union (union s t) u c l (inl (has_union s t c l (inr k)))
        inner (inr k) = let l = has_below u r c k in has_union (union s t) u c l (inr k)

        go : (has s c ≡ true) ⊎ (has (union t u) c ≡ true) → has (union (union s t) u) c ≡ true
        go (inl k) = let l = has_below s p c k in has_union (union s t) u c l (inl (has_union s t c l (inl k)))
        go (inr k) = inner (union_has t u c k)
