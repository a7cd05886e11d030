-- A Group and a Top in two steps give the same bags.
use Rattle.std.proofs.Common.{◌≡◌, ℕ, true, List, [], ◌∷◌, ◌++◌, flat_map, drop, append-nil, refl, sym, IsPermutation}
use Rattle.std.proofs.lemmas.List.Sorted.{IsPermutation-refl, IsPermutation-trans, IsPermutation-sym}
use Rattle.scope_value.specs.Keys.{keys_cmp_total, keys_cmp-Equal}
use Rattle.structural_props.specs.Rows.{items}
use Rattle.user_ops.specs.Told.{Operators}
use Rattle.logical_trees.specs.declared.args.TopArgs.{TopArgs}
use Rattle.logical_trees.specs.declared.logic_op.LogicOp.TheVariants.{Group, Partial, Finish}
use Rattle.logical_trees.specs.Tree.{one, columns_of}
use Rattle.logical_trees.specs.Rows.{Bag, in_order, first_rows, partial_rows}
use Rattle.logical_trees.specs.Meaning.{Sources, StandsFor}
use Rattle.logical_trees.specs.Laws.{IsSplitGroupKept, IsSplitTopKept}
use Rattle.list_lemmas.specs.Bags.{same_permuted}
use Rattle.list_lemmas.specs.Firsts.{first_of_part}
use Rattle.logical_trees.specs.MeaningLemmas.{holds_all}
use Rattle.logical_trees.specs.PartLemmas.{finished_parts}

-- any part of a bag that holds its first rows has the same first rows
pub first_rows_of_part : (args : TopArgs) (cols : List ℕ) (A B out rest : Bag) → IsPermutation (B ++ out) A → IsPermutation (first_rows args cols A ++ rest) B
    → first_rows args cols B ≡ first_rows args cols A
first_rows_of_part args cols = first_of_part (keys_cmp_total (items cols args.order) true) (keys_cmp-Equal (items cols args.order)) args.n

-- the whole bag is such a part
pub split_top : IsSplitTopKept
split_top args t = record {
  columns = refl;
  there = λ ops from B w. let held = holds_all args (columns_of t) w.0 in
      (w.0, (w.0, w.1, ([], drop args.n (in_order (columns_of t) args.order w.0), held.0, held.1)), w.2);
  back = λ ops from B w. let part = w.1 in let from = part.2 in
      (part.0, part.1, IsPermutation-trans _ _ _ (same_permuted _ _ (sym (first_rows_of_part args (columns_of t) part.0 w.0 from.0 from.1 from.2 from.3))) w.2);
}

-- the whole bag is a division into one part
pub split_group : IsSplitGroupKept
split_group args t formed = record { columns = refl; there = splits; back = joins }
  where
    splits : (ops : Operators) (from : Sources) (B : Bag) → StandsFor ops from (one (Group args) t) B → StandsFor ops from (one (Finish args) (one (Partial args) t)) B
    splits ops from B w =
        let A = w.0 in
        let parts = A ∷ [] in
        let whole : IsPermutation (flat_map (λ part. part) parts) A = same_permuted _ _ (append-nil A) in
        let P = flat_map (partial_rows args (columns_of t)) parts in (
          P,
          (A, w.1, (parts, whole, IsPermutation-refl P)),
          IsPermutation-trans _ _ _ (IsPermutation-sym _ _ (finished_parts args formed (columns_of t) A P parts whole (IsPermutation-refl P))) w.2,
        )

    joins : (ops : Operators) (from : Sources) (B : Bag) → StandsFor ops from (one (Finish args) (one (Partial args) t)) B → StandsFor ops from (one (Group args) t) B
    joins ops from B w =
        let part = w.1 in
        (part.0, part.1, IsPermutation-trans _ _ _ (finished_parts args formed (columns_of t) part.0 w.0 part.2.0 part.2.1 part.2.2) w.2)
