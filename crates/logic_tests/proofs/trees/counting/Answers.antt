use Rattle.std.proofs.Common.{◌≡◌, ℕ, List, [], ◌∷◌, ◌++◌, None, refl, ap, ap₂, ◌∙◌}
use Rattle.col_sets.specs.Sets.{columns_where, with_column}
use Rattle.script_trees.specs.declared.agg.AggKind.TheVariants.{Count}
use Rattle.logical_trees.specs.declared.agg.Agg.{Agg}
use Rattle.logical_trees.specs.declared.args.GroupArgs.{GroupArgs}
use Rattle.logic_tests.proofs.trees.counting.Goals as goal

only : with_column [] 1 ≡ 1 ∷ []
unfolding columns_where
only = refl

-- COUNT(*) as column 4
rows : Agg
rows = record { kind = Count; arg = None; id = 4 }

pub returns : goal.returns
unfolding rows
returns c =
    let make : List ℕ → List Agg → GroupArgs = λ keys aggs. record { written = None; keys = keys; aggs = aggs } in
    ap₂ make (c.with.ensures ∙ ap (λ s. with_column s 1) c.empty.ensures ∙ only) (c.in_ok-push.ensures.ok ∙ ap (λ aggs. aggs ++ rows ∷ []) c.new-aggs.ensures)
