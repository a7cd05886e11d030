-- Sets of the columns of a list, and of the names of columns.
use Rattle.std.proofs.Common.{◌≡◌, ℕ, ◌<◌, Bool, true, false, ◌||◌, List, [], ◌∷◌, ◌++◌, map, refl, sym, ap, ap₂, ◌∙◌, nat_eq, ◌⊎◌, inl, inr}
use Rattle.col_sets.specs.Sets.{has, columns_where, set_of, with_column, union}
use Rattle.col_sets.specs.Tests.{or_left, or_right, either, from_test, to_test}
use Rattle.col_sets.specs.Columns.{columns_same, has_where, has_passes}

-- the set of no columns
pub set_of_none : set_of [] ≡ []
unfolding columns_where
set_of_none = refl

-- a column is in a list with one more at the end where it is that one or in the list
has-more : (xs : List ℕ) (c d : ℕ) → (nat_eq c d || has xs d) ≡ has (xs ++ c ∷ []) d
has-more [] c d = refl
has-more (x ∷ xs) c d = turned (nat_eq c d) (nat_eq x d) (has xs d) ∙ ap (λ b. nat_eq x d || b) (has-more xs c d)
  where
    turned : (a b e : Bool) → (a || (b || e)) ≡ (b || (a || e))
    turned true true e = refl
    turned true false e = refl
    turned false true e = refl
    turned false false e = refl

-- the set of a list with one column more
pub set_of_more : (xs : List ℕ) (c : ℕ) → with_column (set_of xs) c ≡ set_of (xs ++ c ∷ [])
set_of_more xs c =
    columns_same (λ d. nat_eq c d || has (set_of xs) d) (has (xs ++ c ∷ []))
    (λ d l. ap (λ b. nat_eq c d || b) (has_where (has xs) d l) ∙ has-more xs c d)

-- a column of the list that is below 128 is in its set
pub has_set_of : (xs : List ℕ) (c : ℕ) → c < 128 → has xs c ≡ true → has (set_of xs) c ≡ true
has_set_of xs c l h = has_where (has xs) c l ∙ h

-- what is in the set of a list is in the list
pub set_of_has : (xs : List ℕ) (c : ℕ) → has (set_of xs) c ≡ true → has xs c ≡ true
set_of_has xs c h = (has_passes (has xs) c h).1

-- the name of a column of the list is among the names
pub has_mapped : (name : ℕ → ℕ) (s : List ℕ) (c : ℕ) → has s c ≡ true → has (map name s) (name c) ≡ true
has_mapped name [] c h = absurd (cc)
has_mapped name (d ∷ s) c h = go (has_mapped name s c) (either _ _ h)
  where
    go : (has s c ≡ true → has (map name s) (name c) ≡ true) → (nat_eq d c ≡ true) ⊎ (has s c ≡ true) → has (map name (d ∷ s)) (name c) ≡ true
    go more (inl e) = or_left _ _ (to_test (name d) (name c) (ap name (from_test d c e)))
    go more (inr e) = or_right _ _ (more e)

-- each name is of a column of the list
pub mapped_has : (name : ℕ → ℕ) (s : List ℕ) (d : ℕ) → has (map name s) d ≡ true → (c : ℕ) × (has s c ≡ true) × (name c ≡ d)
mapped_has name [] d h = absurd (cc)
mapped_has name (c ∷ s) d h = go (mapped_has name s d) (either _ _ h)
  where
    go : (has (map name s) d ≡ true → (b : ℕ) × (has s b ≡ true) × (name b ≡ d)) → (nat_eq (name c) d ≡ true) ⊎ (has (map name s) d ≡ true)
        → (b : ℕ) × (has (c ∷ s) b ≡ true) × (name b ≡ d)
    go more (inl e) = (c, or_left _ _ (to_test c c refl), from_test (name c) d e)
    go more (inr e) = let m = more e in (m.0, or_right _ _ m.1, m.2)

-- the same of the set of the names, which has those below 128
pub has_names : (name : ℕ → ℕ) (s : List ℕ) (c : ℕ) → name c < 128 → has s c ≡ true → has (set_of (map name s)) (name c) ≡ true
has_names name s c l h = has_set_of (map name s) (name c) l (has_mapped name s c h)

pub names_have : (name : ℕ → ℕ) (s : List ℕ) (d : ℕ) → has (set_of (map name s)) d ≡ true → (c : ℕ) × (has s c ≡ true) × (name c ≡ d)
names_have name s d h = mapped_has name s d (set_of_has (map name s) d h)

-- a column is in a list with others after it where it is in one of the two
pub has-append : (xs ys : List ℕ) (c : ℕ) → has (xs ++ ys) c ≡ (has xs c || has ys c)
has-append [] ys c = refl
has-append (x ∷ xs) ys c = ap (λ b. nat_eq x c || b) (has-append xs ys c) ∙ grouped (nat_eq x c) (has xs c) (has ys c)
  where
    grouped : (a b e : Bool) → (a || (b || e)) ≡ ((a || b) || e)
    grouped true b e = refl
    grouped false b e = refl

-- the set of a list with others after it is the union of the sets of both
pub union_set_of : (xs ys : List ℕ) → union (set_of xs) (set_of ys) ≡ set_of (xs ++ ys)
union_set_of xs ys =
    columns_same (λ d. has (set_of xs) d || has (set_of ys) d) (has (xs ++ ys))
    (λ d l. ap₂ (λ a b. a || b) (has_where (has xs) d l) (has_where (has ys) d l) ∙ sym (has-append xs ys d))
