-- One more row, and the rows that are kept once.
use Rattle.std.proofs.Common.{◌≡◌, Bool, true, false, cond, not, List, [], ◌∷◌, ◌++◌, refl, ap, ◌∙◌}
use Rattle.std.specs.List.{filter, list_any}
use Rattle.std.specs.Ordering.{eq_by_cmp}
use Rattle.std.proofs.lemmas.List.{append-nil}
use Rattle.std.proofs.lemmas.List.Elements.{filter-append}
use Rattle.std.proofs.lemmas.Map.Views.{any-filter_same}
use Rattle.scope_value.specs.Order.{row_cmp, row_eq-decides}
use Rattle.logical_trees.specs.Rows.{Row}
use Rattle.list_lemmas.specs.Distinct.{distinct}

-- one row in place of another that compares equal
swapped : (j k r : Row) (b : Bool) → eq_by_cmp row_cmp k r ≡ true → eq_by_cmp row_cmp j r ≡ b → eq_by_cmp row_cmp j k ≡ b
swapped j k r b h e = ap (eq_by_cmp row_cmp j) ((row_eq-decides k r).0 h) ∙ e

-- one more row is kept where none that is kept compares equal
pub distinct_more : (rows : List Row) (r : Row)
    → distinct (rows ++ r ∷ []) ≡ cond (list_any (λ y. eq_by_cmp row_cmp y r) (distinct rows)) (distinct rows) (distinct rows ++ r ∷ [])
distinct_more [] r = refl
distinct_more (j ∷ rows) r = ap (λ x. j ∷ filter (λ s. not (eq_by_cmp row_cmp j s)) x) (distinct_more rows r) ∙ go (eq_by_cmp row_cmp j r) (list_any (λ y. eq_by_cmp row_cmp y r) (distinct rows)) refl refl
  where
    go : (c b : Bool) → eq_by_cmp row_cmp j r ≡ c → list_any (λ y. eq_by_cmp row_cmp y r) (distinct rows) ≡ b
        → j ∷ filter (λ s. not (eq_by_cmp row_cmp j s)) (cond (list_any (λ y. eq_by_cmp row_cmp y r) (distinct rows)) (distinct rows) (distinct rows ++ r ∷ []))
        ≡ cond (list_any (λ y. eq_by_cmp row_cmp y r) (distinct (j ∷ rows))) (distinct (j ∷ rows)) (distinct (j ∷ rows) ++ r ∷ [])
    go true true d e = rw (d, e) refl
    go true false d e =
        let drops : not (eq_by_cmp row_cmp j r) ≡ false = ap not d in
        rw (d, e) (ap (λ x. j ∷ x) (filter-append _ (distinct rows) (r ∷ []) ∙ rw drops (append-nil _)))
    go false b d e =
        let keeps : not (eq_by_cmp row_cmp j r) ≡ true = ap not d in
        let still : list_any (λ y. eq_by_cmp row_cmp y r) (filter (λ s. not (eq_by_cmp row_cmp j s)) (distinct rows)) ≡ list_any (λ y. eq_by_cmp row_cmp y r) (distinct rows)
        = any-filter_same (λ y. eq_by_cmp row_cmp y r) (λ s. not (eq_by_cmp row_cmp j s)) true (λ k h. ap not (swapped j k r false h d)) (distinct rows) in
        rw (d, still) (by_seen (list_any (λ y. eq_by_cmp row_cmp y r) (distinct rows)) keeps)
      where
        by_seen : (b : Bool) → not (eq_by_cmp row_cmp j r) ≡ true
            → j ∷ filter (λ s. not (eq_by_cmp row_cmp j s)) (cond b (distinct rows) (distinct rows ++ r ∷ [])) ≡ cond b (distinct (j ∷ rows)) (distinct (j ∷ rows) ++ r ∷ [])
        by_seen true keeps = refl
        by_seen false keeps = ap (λ x. j ∷ x) (filter-append _ (distinct rows) (r ∷ []) ∙ rw keeps refl)

-- a turn of a loop that keeps the rows that are new
pub distinct_step : (rows front : List Row) (r copy : Row) (kept more : List Row) (b : Bool) → front ≡ rows ++ r ∷ [] → kept ≡ distinct rows → copy ≡ r
    → list_any (λ y. eq_by_cmp row_cmp y r) kept ≡ b → more ≡ cond b kept (kept ++ copy ∷ []) → more ≡ distinct front
distinct_step rows front r copy kept more true one is same found new = rw (one, distinct_more, ← is, found) new
distinct_step rows front r copy kept more false one is same found new = rw (one, distinct_more, ← is, found) (new ∙ ap (λ x. kept ++ x ∷ []) same)
