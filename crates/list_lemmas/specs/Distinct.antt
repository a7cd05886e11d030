-- Rows each once: in any order, by parts, and one of them looked up.
use Rattle.std.proofs.Common.{◌≡◌, Bool, true, false, cond, not, List, [], ◌∷◌, ◌++◌, filter, refl, sym, ap, subst, ◌∙◌, IsPermutation}
use Rattle.std.specs.List.{list_any}
use Rattle.std.specs.Ordering.{eq_by_cmp}
use Rattle.std.proofs.lemmas.List.Sorted.{IsPermutation-refl, IsPermutation-trans, IsPermutation-cons, IsPermutation-middle}
use Rattle.scope_value.specs.declared.value.Value.{Value}
use Rattle.scope_value.specs.Order.{row_cmp, row_eq-decides}
use Rattle.col_sets.specs.Tests.{same_tests}
use Rattle.list_lemmas.specs.Bags.{along_permutation, filter_permuted, filters_turned, filter_again}

-- the values of a row
abbrev Row : Type 0
Row = List Value

-- each row once, where it first stands
abbrev pub distinct : List Row → List Row
distinct [] = []
distinct (r ∷ rows) = r ∷ filter (λ s. not (eq_by_cmp row_cmp r s)) (distinct rows)

-- whether two rows are one
abbrev pub is_row : Row → Row → Bool
is_row = eq_by_cmp row_cmp

-- whether they are two
abbrev pub is_other : Row → Row → Bool
is_other r s = not (is_row r s)

-- the test says which rows are one, whichever is named first
pub row_itself : (r : Row) → is_row r r ≡ true
row_itself r = (row_eq-decides r r).1 refl

pub row_is : (r s : Row) → is_row r s ≡ true → r ≡ s
row_is r s = (row_eq-decides r s).0

pub row_turned : (r s : Row) → is_row r s ≡ is_row s r
row_turned r s =
    same_tests (is_row r s) (is_row s r) (λ h. (row_eq-decides s r).1 (sym (row_is r s h))) (λ h. (row_eq-decides r s).1 (sym (row_is s r h)))

-- the distinct rows are a function of the bag
heads_turned : (x y : Row) (A : List Row) → IsPermutation (distinct (x ∷ y ∷ A)) (distinct (y ∷ x ∷ A))
heads_turned x y A = at (is_row x y) refl
  where
    at : (b : Bool) → is_row x y ≡ b → IsPermutation (distinct (x ∷ y ∷ A)) (distinct (y ∷ x ∷ A))
    at true e = subst (λ (z : Row). IsPermutation (distinct (x ∷ z ∷ A)) (distinct (z ∷ x ∷ A))) (row_is x y e) (IsPermutation-refl _)
    at false e =
        let f : is_row y x ≡ false = row_turned y x ∙ e in
        simp (e, f) (subst (λ (l : List Row). IsPermutation (x ∷ y ∷ filter (is_other x) (filter (is_other y) (distinct A))) (y ∷ x ∷ l))
        (filters_turned (is_other x) (is_other y) (distinct A)) (IsPermutation-middle (x ∷ []) y _))

pub distinct_permuted : (A B : List Row) → IsPermutation A B → IsPermutation (distinct A) (distinct B)
distinct_permuted = along_permutation (λ A B. IsPermutation (distinct A) (distinct B))
    (λ A. IsPermutation-refl _)
    (λ x A B h. IsPermutation-cons x _ _ (filter_permuted (is_other x) _ _ h))
    heads_turned
    (λ A B C. IsPermutation-trans _ _ _)

-- what comes later counts by its distinct rows
pub distinct_later : (A B C : List Row) → distinct B ≡ distinct C → distinct (A ++ B) ≡ distinct (A ++ C)
distinct_later [] B C h = h
distinct_later (r ∷ A) B C h = ap (λ l. r ∷ filter (is_other r) l) (distinct_later A B C h)

-- a row that is left out after may be left out before
left_out : (r : Row) (A B : List Row) → filter (is_other r) (distinct (filter (is_other r) A ++ B)) ≡ filter (is_other r) (distinct (A ++ B))
left_out r [] B = refl
left_out r (x ∷ A) B = at (is_row r x) refl (left_out r A B)
  where
    at : (b : Bool) → is_row r x ≡ b → filter (is_other r) (distinct (filter (is_other r) A ++ B)) ≡ filter (is_other r) (distinct (A ++ B))
        → filter (is_other r) (distinct (filter (is_other r) (x ∷ A) ++ B)) ≡ filter (is_other r) (distinct ((x ∷ A) ++ B))
    at true e h = simp e (h ∙ sym (subst (λ (z : Row). filter (is_other r) (filter (is_other z) (distinct (A ++ B))) ≡ filter (is_other r) (distinct (A ++ B))) (row_is r x e)
        (filter_again (is_other r) (distinct (A ++ B)))))
    at false e h = simp e (ap (λ l. x ∷ l)
        (filters_turned (is_other r) (is_other x) (distinct (filter (is_other r) A ++ B)) ∙ ap (filter (is_other x)) h ∙ filters_turned (is_other x) (is_other r) (distinct (A ++ B))))

-- and so does what comes first
pub distinct_twice : (A B : List Row) → distinct (distinct A ++ B) ≡ distinct (A ++ B)
distinct_twice [] B = refl
distinct_twice (r ∷ A) B = ap (λ l. r ∷ l) (left_out r (distinct A) B ∙ ap (filter (is_other r)) (distinct_twice A B))

-- a row stands once among the distinct rows, where it stands at all
pub distinct_at : (k : Row) (A : List Row) → filter (is_row k) (distinct A) ≡ cond (list_any (is_row k) A) (k ∷ []) []
distinct_at k [] = refl
distinct_at k (x ∷ A) = at (is_row k x) refl (distinct_at k A)
  where
    none : (b : Bool) → filter (is_other k) (cond b (k ∷ []) []) ≡ []
    none true = let e = row_itself k in simp e
    none false = refl

    one : (b : Bool) → is_row x k ≡ false → filter (is_other x) (cond b (k ∷ []) []) ≡ cond b (k ∷ []) []
    one true e = simp e
    one false e = refl

    at : (b : Bool) → is_row k x ≡ b → filter (is_row k) (distinct A) ≡ cond (list_any (is_row k) A) (k ∷ []) []
        → filter (is_row k) (distinct (x ∷ A)) ≡ cond (list_any (is_row k) (x ∷ A)) (k ∷ []) []
    at true e h =
        let here : x ≡ k = sym (row_is k x e) in
        simp e (subst (λ (z : Row). z ∷ filter (is_row k) (filter (is_other z) (distinct A)) ≡ k ∷ []) (sym here)
        (ap (λ l. k ∷ l) (filters_turned (is_row k) (is_other k) (distinct A) ∙ ap (filter (is_other k)) h ∙ none (list_any (is_row k) A))))
    at false e h =
        let f : is_row x k ≡ false = row_turned x k ∙ e in
        simp e (filters_turned (is_row k) (is_other x) (distinct A) ∙ ap (filter (is_other x)) h ∙ one (list_any (is_row k) A) f)
