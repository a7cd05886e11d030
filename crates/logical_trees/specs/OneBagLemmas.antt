-- At most one bag stands for a whole expression.
use Rattle.std.proofs.Common.{◌≡◌, ℕ, List, refl, sym, ◌∙◌, subst, IsPermutation}
use Rattle.std.proofs.lemmas.List.Sorted.{IsPermutation-map}
use Rattle.scope_expr.specs.Value.{holds}
use Rattle.user_ops.specs.Told.{Operators, processes_at}
use Rattle.logical_trees.specs.declared.args.GroupArgs.{GroupArgs}
use Rattle.logical_trees.specs.declared.args.TopArgs.{TopArgs}
use Rattle.logical_trees.specs.declared.logic_op.LogicOp.TheVariants.{Scan, Ref, Filter, Project, Join, Group, Process, Reduce, Combine, Top, Partial, Finish, LocalTop, LastTop}
use Rattle.logical_trees.specs.Tree.{Expression, leaf, one, two, group_columns, columns_of}
use Rattle.logical_trees.specs.Rows.{Bag, projected, first_rows, finished}
use Rattle.logical_trees.specs.Meaning.{Sources, GivesOne, StandsFor}
use Rattle.logical_trees.specs.Formed.{IsWhole, IsPartialOf, IsLocalTopOf, IsFormed, IsGroup}
use Rattle.logical_trees.specs.Laws.{HasOneBag}
use Rattle.list_lemmas.specs.Bags.{same_permuted, between, filter_permuted, flat_map_permuted}
use Rattle.logical_trees.specs.GroupLemmas.{grouped_permuted, joined_permuted, reduced_permuted, combined_permuted, first_rows_permuted}
use Rattle.logical_trees.specs.PartLemmas.{finished_parts}
use Rattle.logical_trees.specs.SplitLemmas.{first_rows_of_part}

-- by the kinds: each gives one bag of one bag
module _ (ops : Operators) (from : Sources) (results : List (List ℕ)) where
  mutual
    one_whole : (t : Expression) → IsWhole t → IsFormed results t → (A B : Bag) → StandsFor ops from t A → StandsFor ops from t B → IsPermutation A B
    one_whole (leaf (Scan scan cols)) h f A B v w = between _ _ _ _ v (same_permuted _ _ refl) w
    one_whole (leaf (Ref shared cols)) h f A B v w = between _ _ _ _ v (same_permuted _ _ refl) w
    one_whole (leaf op) h f A B v w = absurd h
    one_whole (one (Filter e) t) h f A B v w =
        between _ _ _ _ v.2 (filter_permuted (holds e (columns_of t)) v.0 w.0 (one_whole t h f.0 v.0 w.0 v.1 w.1)) w.2
    one_whole (one (Project items cols) t) h f A B v w =
        between _ _ _ _ v.2 (IsPermutation-map (projected items (columns_of t)) v.0 w.0 (one_whole t h f.0 v.0 w.0 v.1 w.1)) w.2
    one_whole (one (Group args) t) h f A B v w =
        between _ _ _ _ v.2 (grouped_permuted args (columns_of t) v.0 w.0 (one_whole t h f.0 v.0 w.0 v.1 w.1)) w.2
    one_whole (one (Process call) t) h f A B v w =
        between _ _ _ _ v.2 (flat_map_permuted (processes_at ops call.op call.args) v.0 w.0 (one_whole t h f.0 v.0 w.0 v.1 w.1)) w.2
    one_whole (one (Reduce call on presort) t) h f A B v w =
        between _ _ _ _ v.2 (reduced_permuted ops (columns_of t) call on presort v.0 w.0 (one_whole t h f.0 v.0 w.0 v.1 w.1)) w.2
    one_whole (one (Top args) t) h f A B v w =
        between _ _ _ _ v.2 (same_permuted _ _ (first_rows_permuted args (columns_of t) v.0 w.0 (one_whole t h f.0 v.0 w.0 v.1 w.1))) w.2
    one_whole (one (Finish args) t) h f A B v w = between _ _ _ _ v.2 (one_finish args t f.1 h f.0 v.0 w.0 v.1 w.1) w.2
    one_whole (one (LastTop args) t) h f A B v w = between _ _ _ _ v.2 (same_permuted _ _ (one_first args t h f.0 v.0 w.0 v.1 w.1)) w.2
    one_whole (one op t) h f A B v w = absurd h
    one_whole (two (Join on) t u) h f A B v w =
        between _ _ _ _ v.4
        (joined_permuted on.items (columns_of t) (columns_of u) v.0 w.0 v.1 w.1 (one_whole t h.0 f.0 v.0 w.0 v.2 w.2) (one_whole u h.1 f.1 v.1 w.1 v.3 w.3)) w.4
    one_whole (two (Combine call on before beside) t u) h f A B v w =
        between _ _ _ _ v.4
        (combined_permuted ops (columns_of t) (columns_of u) call on.items before beside v.0 w.0 v.1 w.1 (one_whole t h.0 f.0 v.0 w.0 v.2 w.2) (one_whole u h.1 f.1 v.1 w.1 v.3 w.3)) w.4
    one_whole (two op t u) h f A B v w = absurd h

    -- whatever the partial rows, finished they are one bag
    one_finish : (args : GroupArgs) (t : Expression) → IsGroup args → IsPartialOf args t → IsFormed results t → (P Q : Bag) → StandsFor ops from t P → StandsFor ops from t Q
        → IsPermutation (finished args (columns_of t) P) (finished args (columns_of t) Q)
    one_finish args (one (Partial more) t) g h f P Q v w =
        let x = subst (λ (a : GroupArgs). GivesOne ops (Partial a) (columns_of t) v.0 P) (sym h.0) v.2 in
        let y = subst (λ (a : GroupArgs). GivesOne ops (Partial a) (columns_of t) w.0 Q) (sym h.0) w.2 in
        subst (λ (a : GroupArgs). IsPermutation (finished args (group_columns a) P) (finished args (group_columns a) Q)) h.0
        (between _ _ _ _ (finished_parts args g (columns_of t) v.0 P x.0 x.1 x.2)
        (grouped_permuted args (columns_of t) v.0 w.0 (one_whole t h.1 f.0 v.0 w.0 v.1 w.1))
        (finished_parts args g (columns_of t) w.0 Q y.0 y.1 y.2))
    one_finish args (leaf op) g h f P Q v w = absurd h
    one_finish args (one op t) g h f P Q v w = absurd h
    one_finish args (two op t u) g h f P Q v w = absurd h

    -- whatever else is kept, the first rows are the same
    one_first : (args : TopArgs) (t : Expression) → IsLocalTopOf args t → IsFormed results t → (P Q : Bag) → StandsFor ops from t P → StandsFor ops from t Q
        → first_rows args (columns_of t) P ≡ first_rows args (columns_of t) Q
    one_first args (one (LocalTop more) t) h f P Q v w =
        let x = subst (λ (a : TopArgs). GivesOne ops (LocalTop a) (columns_of t) v.0 P) (sym h.0) v.2 in
        let y = subst (λ (a : TopArgs). GivesOne ops (LocalTop a) (columns_of t) w.0 Q) (sym h.0) w.2 in
        first_rows_of_part args (columns_of t) v.0 P x.0 x.1 x.2 x.3
        ∙ first_rows_permuted args (columns_of t) v.0 w.0 (one_whole t h.1 f.0 v.0 w.0 v.1 w.1)
        ∙ sym (first_rows_of_part args (columns_of t) w.0 Q y.0 y.1 y.2 y.3)
    one_first args (leaf op) h f P Q v w = absurd h
    one_first args (one op t) h f P Q v w = absurd h
    one_first args (two op t u) h f P Q v w = absurd h

-- at most one bag stands for a whole expression
pub one_bag : HasOneBag
one_bag ops from results t A B h f v w = one_whole ops from results t h f A B v w
