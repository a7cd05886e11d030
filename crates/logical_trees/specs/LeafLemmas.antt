-- Lists of leaves: what some leaf has, what each has, and leaves that are apart.
use Rattle.std.proofs.Common.{◌≡◌, ℕ, zero, suc, ◌+◌, ◌/◌, ◌%◌, ◌<◌, ◌≤◌, Bool, true, false, cond, List, [], ◌∷◌, ◌++◌, count_by, nat_eq, refl, ap, subst, arith, ◌⊎◌, inl, inr, IsPermutation}
use Rattle.col_sets.specs.Sets.{has, union, IsColumnSet}
use Rattle.col_sets.specs.Columns.{columns_where-set, columns_none, sets_same, has_below, union_has, has_union}
use Rattle.col_sets.specs.Tests.{same_tests}
use Rattle.structural_props.specs.Actions.{In}
use Rattle.structural_props.specs.KeptLemmas.{in_append, in_left, in_right}
use Rattle.logical_trees.specs.Tree.{Expression, columns_of}
use Rattle.logical_trees.specs.Blocks.{SomeLeaf, columns_of_all, chosen}
use Rattle.logical_trees.specs.Formed.{IsFormed}
use Rattle.list_lemmas.specs.Counts.{count-cons, count-append, count_permuted}
use Rattle.logical_trees.specs.ColumnLemmas.{columns_set}
use Rattle.list_lemmas.specs.Members.{in_moved}

-- ---- some leaf

-- a leaf that has the property
pub some_find : (P : Expression → Type 0) (leaves : List Expression) → SomeLeaf P leaves → (t : Expression) × In t leaves × P t
some_find P [] h = absurd h
some_find P (t ∷ leaves) (inl p) = (t, inl refl, p)
some_find P (t ∷ leaves) (inr h) = let m = some_find P leaves h in (m.0, inr m.1, m.2)

-- the property of a leaf is one of some leaf
pub some_at : (P : Expression → Type 0) (leaves : List Expression) (t : Expression) → In t leaves → P t → SomeLeaf P leaves
some_at P [] t m p = absurd m
some_at P (u ∷ leaves) t (inl e) p = inl (subst P e p)
some_at P (u ∷ leaves) t (inr m) p = inr (some_at P leaves t m p)

-- what follows for each leaf
pub some_then : (P Q : Expression → Type 0) (leaves : List Expression) → ((t : Expression) → In t leaves → P t → Q t) → SomeLeaf P leaves → SomeLeaf Q leaves
some_then P Q leaves f h = let m = some_find P leaves h in some_at Q leaves m.0 m.1 (f m.0 m.1 m.2)

module _ (P : Expression → Type 0) where
  -- leaves of two lists
  pub some_left : (before beside : List Expression) → SomeLeaf P before → SomeLeaf P (before ++ beside)
  some_left before beside h = let m = some_find P before h in some_at P (before ++ beside) m.0 (in_left m.0 before beside m.1) m.2

  pub some_right : (before beside : List Expression) → SomeLeaf P beside → SomeLeaf P (before ++ beside)
  some_right before beside h = let m = some_find P beside h in some_at P (before ++ beside) m.0 (in_right m.0 before beside m.1) m.2

  pub some_either : (before beside : List Expression) → SomeLeaf P (before ++ beside) → SomeLeaf P before ⊎ SomeLeaf P beside
  some_either before beside h = let m = some_find P (before ++ beside) h in go m.0 m.2 (in_append m.0 before beside m.1)
    where
      go : (t : Expression) → P t → In t before ⊎ In t beside → SomeLeaf P before ⊎ SomeLeaf P beside
      go t p (inl k) = inl (some_at P before t k p)
      go t p (inr k) = inr (some_at P beside t k p)

-- the order of leaves says nothing
pub some_permuted : (P : Expression → Type 0) (xs ys : List Expression) → IsPermutation xs ys → SomeLeaf P xs → SomeLeaf P ys
some_permuted P xs ys p h = let m = some_find P xs h in some_at P ys m.0 (in_moved m.0 xs ys p m.1) m.2

-- ---- each leaf

-- each leaf has the property
abbrev pub EachLeaf : (Expression → Type 0) → List Expression → Type 0
EachLeaf P leaves = (t : Expression) → In t leaves → P t

module _ (P : Expression → Type 0) where
  pub each_left : (before beside : List Expression) → EachLeaf P (before ++ beside) → EachLeaf P before
  each_left before beside h t m = h t (in_left t before beside m)

  pub each_right : (before beside : List Expression) → EachLeaf P (before ++ beside) → EachLeaf P beside
  each_right before beside h t m = h t (in_right t before beside m)

  pub each_both : (before beside : List Expression) → EachLeaf P before → EachLeaf P beside → EachLeaf P (before ++ beside)
  each_both before beside h k t m = go (in_append t before beside m)
    where
      go : In t before ⊎ In t beside → P t
      go (inl n) = h t n
      go (inr n) = k t n

  pub each_permuted : (xs ys : List Expression) → IsPermutation xs ys → EachLeaf P ys → EachLeaf P xs
  each_permuted xs ys p h t m = h t (in_moved t xs ys p m)

-- ---- columns of leaves

-- the columns of a leaf are a set
abbrev pub HasSet : Expression → Type 0
HasSet t = IsColumnSet (columns_of t)

-- those of formed leaves are
pub formed_sets : (results : List (List ℕ)) (leaves : List Expression) → EachLeaf (IsFormed results) leaves → EachLeaf HasSet leaves
formed_sets results leaves h t m = columns_set results t (h t m)

-- with no columns more a set is the same
pub union_none : (s : List ℕ) → IsColumnSet s → union s [] ≡ s
union_none s set = sets_same (union s []) s (columns_where-set _) set (λ c l. same_tests _ _ (λ h. one c (union_has s [] c h)) (λ h. has_union s [] c l (inl h)))
  where
    one : (c : ℕ) → (has s c ≡ true) ⊎ (has [] c ≡ true) → has s c ≡ true
    one c (inl h) = h
    one c (inr h) = absurd (cc)

-- the column is one of the leaf's
abbrev pub HasColumn : ℕ → Expression → Type 0
HasColumn c t = has (columns_of t) c ≡ true

-- a column of some leaf is below 128
pub some_below : (leaves : List Expression) → EachLeaf HasSet leaves → (c : ℕ) → SomeLeaf (HasColumn c) leaves → c < 128
some_below leaves sets c h = let m = some_find (HasColumn c) leaves h in has_below (columns_of m.0) (sets m.0 m.1) c m.2

-- the columns of all leaves are a set
pub all_columns_set : (leaves : List Expression) → IsColumnSet (columns_of_all leaves)
all_columns_set [] = columns_none
all_columns_set (t ∷ leaves) = columns_where-set _

-- a column of all leaves is one of some leaf
pub all_columns_some : (leaves : List Expression) (c : ℕ) → has (columns_of_all leaves) c ≡ true → SomeLeaf (HasColumn c) leaves
all_columns_some [] c h = absurd (cc)
all_columns_some (t ∷ leaves) c h = go (all_columns_some leaves c) (union_has (columns_of t) (columns_of_all leaves) c h)
  where
    go : (has (columns_of_all leaves) c ≡ true → SomeLeaf (HasColumn c) leaves) → HasColumn c t ⊎ (has (columns_of_all leaves) c ≡ true) → HasColumn c t ⊎ SomeLeaf (HasColumn c) leaves
    go more (inl k) = inl k
    go more (inr k) = inr (more k)

-- and the other way round
pub some_all_columns : (leaves : List Expression) (c : ℕ) → c < 128 → SomeLeaf (HasColumn c) leaves → has (columns_of_all leaves) c ≡ true
some_all_columns [] c l h = absurd h
some_all_columns (t ∷ leaves) c l (inl k) = has_union (columns_of t) (columns_of_all leaves) c l (inl k)
some_all_columns (t ∷ leaves) c l (inr k) = has_union (columns_of t) (columns_of_all leaves) c l (inr (some_all_columns leaves c l k))

-- ---- leaves that are apart

-- no column is one of two leaves
abbrev pub AreApart : List Expression → Type 0
AreApart leaves = (c : ℕ) → count_by (λ t. has (columns_of t) c) leaves ≤ 1

module _ (c : ℕ) where
  -- where some leaf has the column, it counts
  pub some_count : (leaves : List Expression) → SomeLeaf (HasColumn c) leaves → 1 ≤ count_by (λ t. has (columns_of t) c) leaves
  some_count [] h = absurd h
  some_count (t ∷ leaves) (inl k) =
      let e = count-cons (λ t. has (columns_of t) c) t leaves in
      let f : cond {A = ℕ} (has (columns_of t) c) 1 0 ≡ 1 = ap (λ b. cond {A = ℕ} b 1 0) k in
      omega arith
  some_count (t ∷ leaves) (inr k) = let e = count-cons (λ t. has (columns_of t) c) t leaves in let f = some_count leaves k in omega arith

  -- what counts is some leaf
  pub count_some : (leaves : List Expression) → 1 ≤ count_by (λ t. has (columns_of t) c) leaves → SomeLeaf (HasColumn c) leaves
  count_some [] h = absurd (omega arith)
  count_some (t ∷ leaves) h = go (count_some leaves) (has (columns_of t) c) refl
    where
      go : (1 ≤ count_by (λ t. has (columns_of t) c) leaves → SomeLeaf (HasColumn c) leaves) → (b : Bool) → has (columns_of t) c ≡ b → HasColumn c t ⊎ SomeLeaf (HasColumn c) leaves
      go more true e = inl e
      go more false e =
          let f = count-cons (λ t. has (columns_of t) c) t leaves in
          let g : cond {A = ℕ} (has (columns_of t) c) 1 0 ≡ 0 = ap (λ b. cond {A = ℕ} b 1 0) e in
          inr (more (omega arith))

-- leaves of two lists that are apart
pub apart_left : (before beside : List Expression) → AreApart (before ++ beside) → AreApart before
apart_left before beside h c = let e = count-append (λ t. has (columns_of t) c) before beside in let l = h c in omega arith

pub apart_right : (before beside : List Expression) → AreApart (before ++ beside) → AreApart beside
apart_right before beside h c = let e = count-append (λ t. has (columns_of t) c) before beside in let l = h c in omega arith

pub apart_across : (before beside : List Expression) → AreApart (before ++ beside) → (c : ℕ) → SomeLeaf (HasColumn c) before → SomeLeaf (HasColumn c) beside → ⊥
apart_across before beside h c left right =
    let e = count-append (λ t. has (columns_of t) c) before beside in
    let l = h c in
    let m = some_count c before left in
    let n = some_count c beside right in
    omega arith

pub apart_both : (before beside : List Expression) → AreApart before → AreApart beside
    → ((c : ℕ) → SomeLeaf (HasColumn c) before → SomeLeaf (HasColumn c) beside → ⊥) → AreApart (before ++ beside)
apart_both before beside h k across c =
    let e = count-append (λ t. has (columns_of t) c) before beside in
    let l = go (count_by (λ t. has (columns_of t) c) before) (count_by (λ t. has (columns_of t) c) beside) (h c) (k c) (λ m n. across c (count_some c before m) (count_some c beside n)) in
    omega arith
  where
    go : (m n : ℕ) → m ≤ 1 → n ≤ 1 → (1 ≤ m → 1 ≤ n → ⊥) → m + n ≤ 1
    go zero n l k f = omega arith
    go (suc m) zero l k f = omega arith
    go (suc m) (suc n) l k f = absurd (f (omega arith) (omega arith))

pub apart_permuted : (xs ys : List Expression) → IsPermutation xs ys → AreApart ys → AreApart xs
apart_permuted xs ys p h c = let e = count_permuted (λ t. has (columns_of t) c) xs ys p in let l = h c in omega arith

-- ---- chosen leaves

-- a chosen leaf is one of the leaves
pub chosen_in : (mask : ℕ) (leaves : List Expression) (t : Expression) → In t (chosen mask leaves) → In t leaves
chosen_in mask [] t h = h
chosen_in mask (u ∷ leaves) t h = go (chosen_in (mask / 2) leaves t) (nat_eq (mask % 2) 1) h
  where
    go : (In t (chosen (mask / 2) leaves) → In t leaves) → (b : Bool) → In t (cond b (u ∷ chosen (mask / 2) leaves) (chosen (mask / 2) leaves)) → In t (u ∷ leaves)
    go more true (inl e) = inl e
    go more true (inr k) = inr (more k)
    go more false k = inr (more k)

-- chosen leaves are as apart as all
pub chosen_count : (p : Expression → Bool) (mask : ℕ) (leaves : List Expression) → count_by p (chosen mask leaves) ≤ count_by p leaves
chosen_count p mask [] = omega arith
chosen_count p mask (t ∷ leaves) = go (chosen_count p (mask / 2) leaves) (nat_eq (mask % 2) 1)
  where
    go : count_by p (chosen (mask / 2) leaves) ≤ count_by p leaves → (b : Bool) → count_by p (cond b (t ∷ chosen (mask / 2) leaves) (chosen (mask / 2) leaves)) ≤ count_by p (t ∷ leaves)
    go more true = let e = count-cons p t leaves in let f = count-cons p t (chosen (mask / 2) leaves) in omega arith
    go more false = let e = count-cons p t leaves in omega arith

pub chosen_apart : (mask : ℕ) (leaves : List Expression) → AreApart leaves → AreApart (chosen mask leaves)
chosen_apart mask leaves h c = let e = chosen_count (λ t. has (columns_of t) c) mask leaves in let l = h c in omega arith
