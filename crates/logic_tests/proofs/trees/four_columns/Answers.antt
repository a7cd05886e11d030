use Rattle.std.proofs.Common.{◌≡◌, ℕ, List, [], ◌∷◌, refl, ap, ◌∙◌}
use Rattle.col_sets.specs.Sets.{columns_where, with_column}
use Rattle.logic_tests.proofs.trees.four_columns.Goals as goal

four : with_column (with_column (with_column (with_column [] 0) 1) 2) 3 ≡ 0 ∷ 1 ∷ 2 ∷ 3 ∷ []
unfolding columns_where
four = refl

pub returns : goal.returns
returns c =
    let with : List ℕ → ℕ → List ℕ = with_column in
    c.with-4.ensures ∙ ap (λ s. with s 3) (c.with-3.ensures ∙ ap (λ s. with s 2) (c.with-2.ensures ∙ ap (λ s. with s 1) (c.with.ensures ∙ ap (λ s. with s 0) c.empty.ensures))) ∙ four
