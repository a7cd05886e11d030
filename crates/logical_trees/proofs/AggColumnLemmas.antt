-- The columns that aggregates give, one by one.
use Rattle.std.proofs.Common.{◌≡◌, ℕ, Bool, true, false, ◌||◌, List, [], ◌∷◌, ◌++◌, refl, ap, ◌∙◌, nat_eq}
use Rattle.col_sets.specs.Sets.{has, columns_where, with_column, union}
use Rattle.col_sets.specs.Columns.{columns_same, has_where}

-- a column is in a list with one more at the end where it is that one or in the list
has-more : (xs : List ℕ) (c d : ℕ) → (nat_eq c d || has xs d) ≡ has (xs ++ c ∷ []) d
has-more [] c d = refl
has-more (x ∷ xs) c d = turned (nat_eq c d) (nat_eq x d) (has xs d) ∙ ap (λ b. nat_eq x d || b) (has-more xs c d)
  where
    turned : (a b e : Bool) → (a || (b || e)) ≡ (b || (a || e))
    turned true true e = refl
    turned true false e = refl
    turned false true e = refl
    turned false false e = refl

-- no column yet
pub none_yet : [] ≡ columns_where (has [])
unfolding columns_where
none_yet = refl

-- one column more
pub one_more : (set xs : List ℕ) (c : ℕ) → set ≡ columns_where (has xs) → with_column set c ≡ columns_where (has (xs ++ c ∷ []))
one_more set xs c e =
    ap (λ s. with_column s c) e
    ∙ columns_same (λ d. nat_eq c d || has (columns_where (has xs)) d) (has (xs ++ c ∷ [])) (λ d l. ap (λ b. nat_eq c d || b) (has_where (has xs) d l) ∙ has-more xs c d)

-- with the columns of a list below 128, or with the list
pub union_where : (s xs : List ℕ) → union s (columns_where (has xs)) ≡ union s xs
union_where s xs = columns_same (λ d. has s d || has (columns_where (has xs)) d) (λ d. has s d || has xs d) (λ d l. ap (λ b. has s d || b) (has_where (has xs) d l))
