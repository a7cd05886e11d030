use Rattle.std.proofs.Common.{◌≡◌, ℕ, List, [], ◌∷◌, refl, ap, ap₂, ◌∙◌}
use Rattle.std.proofs.lemmas.Result.{IfOk-weaker}
use Rattle.col_sets.specs.Sets.{columns_where, with_column}
use Rattle.logical_trees.specs.declared.logic_op.LogicOp.{LogicOp}
use Rattle.logical_trees.specs.declared.logic_op.LogicOp.TheVariants.{Scan}
use Rattle.logical_trees.specs.Tree.{Expression, leaf, two, tree_of}
use Rattle.logical_trees.specs.Worked.{on_pair, three_joined}
use Rattle.logic_tests.proofs.trees.three_joined.Goals as goal

-- an operator over an expression and a scan, each being another
both : (op other : LogicOp) (t u : Expression) (n : ℕ) (cols more : List ℕ) → op ≡ other → t ≡ u → cols ≡ more → two op t (leaf (Scan n cols)) ≡ two other u (leaf (Scan n more))
both op other t u n cols more p q r = cc

only_0 : with_column [] 0 ≡ 0 ∷ []
unfolding columns_where
only_0 = refl

only_1_and_2 : with_column (with_column [] 1) 2 ≡ 1 ∷ 2 ∷ []
unfolding columns_where
only_1_and_2 = refl

only_3 : with_column [] 3 ≡ 3 ∷ []
unfolding columns_where
only_3 = refl

pub returns : goal.returns
returns c =
    let with : List ℕ → ℕ → List ℕ = with_column in
    let first : tree_of c.scan-first.result ≡ leaf (Scan 0 (0 ∷ [])) = c.scan-first.ensures ∙ ap (λ s. leaf (Scan 0 s)) (c.with.ensures ∙ ap (λ s. with s 0) c.empty.ensures ∙ only_0) in
    let second : c.with-second.result ≡ 1 ∷ 2 ∷ [] = c.with-second.ensures ∙ ap (λ s. with s 2) (c.with-2.ensures ∙ ap (λ s. with s 1) c.empty-2.ensures) ∙ only_1_and_2 in
    let third : c.with-third.result ≡ 3 ∷ [] = c.with-third.ensures ∙ ap (λ s. with s 3) c.empty-3.ensures ∙ only_3 in
    IfOk-weaker c.beside_scan-2.result (λ t. tree_of t ≡ two c.on_pair-2.result (tree_of c.in_ok-two.two) (leaf (Scan 2 c.with-third.result))) (λ t. tree_of t ≡ three_joined)
    (λ t is. is ∙ both _ _ _ _ 2 _ _ c.on_pair-2.ensures (c.in_ok-two.ensures ∙ both _ _ _ _ 1 _ _ c.on_pair.ensures first second) third) c.beside_scan-2.ensures
