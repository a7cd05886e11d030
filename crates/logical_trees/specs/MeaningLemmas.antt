-- What stands for an expression does so in any order, and some bag does.
use Rattle.std.proofs.Common.{ℕ, true, List, [], ◌∷◌, ◌++◌, drop, append-nil, take-append-drop, IsPermutation}
use Rattle.std.proofs.lemmas.List.Sorted.{IsPermutation-refl, IsPermutation-trans, IsPermutation-sym, IsPermutation-append_left}
use Rattle.scope_value.specs.Keys.{keys_cmp}
use Rattle.structural_props.specs.Rows.{items}
use Rattle.user_ops.specs.Told.{Operators}
use Rattle.logical_trees.specs.declared.args.GroupArgs.{GroupArgs}
use Rattle.logical_trees.specs.declared.args.TopArgs.{TopArgs}
use Rattle.logical_trees.specs.declared.logic_op.LogicOp.{LogicOp}
use Rattle.logical_trees.specs.declared.logic_op.LogicOp.TheVariants.{Scan, Ref, Filter, Project, Join, Group, Process, Reduce, Combine, Top, Partial, Finish, LocalTop, LastTop}
use Rattle.logical_trees.specs.Tree.{Expression, leaf, one, two, columns_of}
use Rattle.logical_trees.specs.Rows.{Bag, in_order, first_rows}
use Rattle.logical_trees.specs.Meaning.{Sources, bag_at, GivesLeaf, GivesOne, GivesTwo, StandsFor}
use Rattle.logical_trees.specs.Formed.{IsWhole, IsPartialOf, IsLocalTopOf}
use Rattle.logical_trees.specs.Laws.{IsOrderFree, HasSomeBag}
use Rattle.list_lemmas.specs.Bags.{same_permuted}
use Rattle.list_lemmas.specs.Sorting.{sorted_moved}

-- ---- in any order

-- what each kind gives it gives in any order
leaf_moved : (from : Sources) (op : LogicOp) (B C : Bag) → GivesLeaf from op B → IsPermutation B C → GivesLeaf from op C
leaf_moved from (Scan scan cols) B C h k = IsPermutation-trans _ _ _ h k
leaf_moved from (Ref shared cols) B C h k = IsPermutation-trans _ _ _ h k
leaf_moved from op B C h k = absurd h

one_moved : (ops : Operators) (op : LogicOp) (cols : List ℕ) (A B C : Bag) → GivesOne ops op cols A B → IsPermutation B C → GivesOne ops op cols A C
one_moved ops (Filter e) cols A B C h k = IsPermutation-trans _ _ _ h k
one_moved ops (Project items new) cols A B C h k = IsPermutation-trans _ _ _ h k
one_moved ops (Group args) cols A B C h k = IsPermutation-trans _ _ _ h k
one_moved ops (Process call) cols A B C h k = IsPermutation-trans _ _ _ h k
one_moved ops (Reduce call on presort) cols A B C h k = IsPermutation-trans _ _ _ h k
one_moved ops (Top args) cols A B C h k = IsPermutation-trans _ _ _ h k
one_moved ops (Partial args) cols A B C h k = (h.0, h.1, IsPermutation-trans _ _ _ h.2 k)
one_moved ops (Finish args) cols A B C h k = IsPermutation-trans _ _ _ h k
one_moved ops (LocalTop args) cols A B C h k =
    (h.0, h.1, IsPermutation-trans _ _ _ (IsPermutation-append_left h.0 _ _ (IsPermutation-sym _ _ k)) h.2, IsPermutation-trans _ _ _ h.3 k)
one_moved ops (LastTop args) cols A B C h k = IsPermutation-trans _ _ _ h k
one_moved ops op cols A B C h k = absurd h

two_moved : (ops : Operators) (op : LogicOp) (left right : List ℕ) (A B C D : Bag) → GivesTwo ops op left right A B C → IsPermutation C D → GivesTwo ops op left right A B D
two_moved ops (Join on) left right A B C D h k = IsPermutation-trans _ _ _ h k
two_moved ops (Combine call on before beside) left right A B C D h k = IsPermutation-trans _ _ _ h k
two_moved ops op left right A B C D h k = absurd h

-- what stands for an expression does so in any order
pub order_free : IsOrderFree
order_free ops from (leaf op) A B h k = leaf_moved from op A B h k
order_free ops from (one op t) A B h k = (h.0, h.1, one_moved ops op (columns_of t) h.0 A B h.2 k)
order_free ops from (two op t u) A B h k = (h.0, h.1, h.2, h.3, two_moved ops op (columns_of t) (columns_of u) h.0 h.1 A B h.4 k)

-- ---- some bag

-- the whole bag holds its first rows
pub holds_all : (args : TopArgs) (cols : List ℕ) (A : Bag) → IsPermutation (A ++ []) A × IsPermutation (first_rows args cols A ++ drop args.n (in_order cols args.order A)) A
holds_all args cols A = (
  same_permuted _ _ (append-nil A),
  IsPermutation-trans _ _ _ (same_permuted _ _ (take-append-drop args.n (in_order cols args.order A))) (sorted_moved (keys_cmp (items cols args.order) true) A),
)

-- each kind gives some bag; a Partial takes all rows as one part, and a LocalTop keeps all
module _ (ops : Operators) (from : Sources) where
  mutual
    some_whole : (t : Expression) → IsWhole t → (B : Bag) × StandsFor ops from t B
    some_whole (leaf (Scan scan cols)) h = (bag_at from.scans scan, IsPermutation-refl _)
    some_whole (leaf (Ref shared cols)) h = (bag_at from.shared shared, IsPermutation-refl _)
    some_whole (leaf op) h = absurd h
    some_whole (one (Filter e) t) h = let w = some_whole t h in (_, (w.0, w.1, IsPermutation-refl _))
    some_whole (one (Project items cols) t) h = let w = some_whole t h in (_, (w.0, w.1, IsPermutation-refl _))
    some_whole (one (Group args) t) h = let w = some_whole t h in (_, (w.0, w.1, IsPermutation-refl _))
    some_whole (one (Process call) t) h = let w = some_whole t h in (_, (w.0, w.1, IsPermutation-refl _))
    some_whole (one (Reduce call on presort) t) h = let w = some_whole t h in (_, (w.0, w.1, IsPermutation-refl _))
    some_whole (one (Top args) t) h = let w = some_whole t h in (_, (w.0, w.1, IsPermutation-refl _))
    some_whole (one (Finish args) t) h = let w = some_partial args t h in (_, (w.0, w.1, IsPermutation-refl _))
    some_whole (one (LastTop args) t) h = let w = some_local args t h in (_, (w.0, w.1, IsPermutation-refl _))
    some_whole (one op t) h = absurd h
    some_whole (two (Join on) t u) h = let v = some_whole t h.0 in let w = some_whole u h.1 in (_, (v.0, w.0, v.1, w.1, IsPermutation-refl _))
    some_whole (two (Combine call on left right) t u) h = let v = some_whole t h.0 in let w = some_whole u h.1 in (_, (v.0, w.0, v.1, w.1, IsPermutation-refl _))
    some_whole (two op t u) h = absurd h

    some_partial : (args : GroupArgs) (t : Expression) → IsPartialOf args t → (P : Bag) × StandsFor ops from t P
    some_partial args (one (Partial more) t) h =
        let w = some_whole t h.1 in
        (_, (w.0, w.1, (w.0 ∷ [], same_permuted _ _ (append-nil w.0), IsPermutation-refl _)))
    some_partial args (leaf op) h = absurd h
    some_partial args (one op t) h = absurd h
    some_partial args (two op t u) h = absurd h

    some_local : (args : TopArgs) (t : Expression) → IsLocalTopOf args t → (P : Bag) × StandsFor ops from t P
    some_local args (one (LocalTop more) t) h =
        let w = some_whole t h.1 in
        let held = holds_all more (columns_of t) w.0 in
        (w.0, (w.0, w.1, ([], drop more.n (in_order (columns_of t) more.order w.0), held.0, held.1)))
    some_local args (leaf op) h = absurd h
    some_local args (one op t) h = absurd h
    some_local args (two op t u) h = absurd h

-- some bag stands for a whole expression
pub some_bag : HasSomeBag
some_bag ops from t h = some_whole ops from t h
