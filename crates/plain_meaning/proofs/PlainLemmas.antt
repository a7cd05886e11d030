-- Bags that a node gives where the plain program computes one list, and a node over two expressions from what its code sees.
use Rattle.std.proofs.Common.{◌≡◌, ℕ, true, cond, List, [], ◌∷◌, ◌++◌, map, drop, Option, Some, None, Result, Vec, Global, IfOk, refl, sym, ap, ap₂, ◌∙◌}
use Rattle.std.specs.Option.{IfSome}
use Rattle.std.specs.List.{flat_map}
use Rattle.std.specs.List.Sorted.{IsPermutation}
use Rattle.std.specs.declared.alloc.AllocError.{AllocError}
use Rattle.std.proofs.lemmas.Result.{IfOk-weaker}
use Rattle.std.proofs.lemmas.List.{append-nil, map-id, take-append-drop}
use Rattle.std.proofs.lemmas.List.Concat.{flat_map_single}
use Rattle.std.proofs.lemmas.List.Folds.{flat_map-map}
use Rattle.std.proofs.lemmas.List.Sorted.{IsPermutation-refl, IsPermutation-sym}
use Rattle.scope_value.specs.Keys.{keys_cmp}
use Rattle.scope_value.specs.Order.{row_eq-decides}
use Rattle.scope_value.proofs.SortedLemmas.{sorted_moves}
use Rattle.structural_props.specs.Rows.{key_of, items}
use Rattle.user_ops.specs.Told.{Operators}
use Rattle.logical_trees.specs.declared.args.GroupArgs.{GroupArgs}
use Rattle.logical_trees.specs.declared.args.TopArgs.{TopArgs}
use Rattle.logical_trees.specs.declared.logic_op.LogicOp.{LogicOp}
use Rattle.logical_trees.specs.Tree.{Expression, two, columns_of}
use Rattle.logical_trees.specs.Rows.{Row, Bag, with_key, group_row, partial_value, partial_rows, first_rows, in_order}
use Rattle.logical_trees.specs.Meaning.{Sources, GivesTwo, StandsFor}
use Rattle.list_lemmas.specs.Bags.{same_permuted}
use Rattle.plain_meaning.specs.Steps.{partial_row}

-- what equals a list is one bag with it, as clauses have it: the list on the right
pub same_bag : {X : Type 0} (xs ys : List X) → ys ≡ xs → IsPermutation xs ys
same_bag xs ys e = same_permuted xs ys (sym e)

-- a part of one row has its partial row
single_part : (args : GroupArgs) (cols : List ℕ) (r : Row) → partial_rows args cols (r ∷ []) ≡ partial_row args cols r ∷ []
single_part args cols r =
    let k : Row = key_of cols args.keys r in
    let own : with_key cols args.keys k (r ∷ []) ≡ r ∷ [] = ap (λ b. cond b (r ∷ []) []) ((row_eq-decides k k).1 refl) in
    ap (λ (rows : Bag). group_row args (λ a. partial_value cols a rows) k ∷ []) own

-- so have parts of one row each
each_single : (args : GroupArgs) (cols : List ℕ) (A : Bag) → flat_map (partial_rows args cols) (map (λ r. r ∷ []) A) ≡ map (partial_row args cols) A
each_single args cols [] = refl
each_single args cols (r ∷ A) = ap₂ ◌++◌ (single_part args cols r) (each_single args cols A)

-- each row is a part of its own
pub single_parts : (args : GroupArgs) (cols : List ℕ) (A B : Bag) → B ≡ map (partial_row args cols) A
    → (parts : List Bag) × IsPermutation (flat_map (λ part. part) parts) A × IsPermutation (flat_map (partial_rows args cols) parts) B
single_parts args cols A B e =
    let parts : List Bag = map (λ r. r ∷ []) A in
    let all : flat_map (λ part. part) parts ≡ A = flat_map-map (λ (part : Bag). part) (λ r. r ∷ []) A ∙ flat_map_single (λ (r : Row). r) A ∙ map-id A in
    (parts, same_permuted (flat_map (λ part. part) parts) A all, same_permuted (flat_map (partial_rows args cols) parts) B (each_single args cols A ∙ sym e))

-- the first rows lie within the rows
pub first_within : (args : TopArgs) (cols : List ℕ) (A B : Bag) → B ≡ first_rows args cols A
    → (out rest : Bag) × IsPermutation (B ++ out) A × IsPermutation (first_rows args cols A ++ rest) B
first_within args cols A B e =
    let s = in_order cols args.order A in (
      drop args.n s,
      [],
      rw (e, take-append-drop args.n s) (IsPermutation-sym A s (sorted_moves (keys_cmp (items cols args.order) true) A)),
      same_permuted (first_rows args cols A ++ []) B (append-nil (first_rows args cols A) ∙ sym e),
    )

-- what a node gives over bags that stand for its children stands for the whole
pub two_stands : (ops : Operators) (from : Sources) (op : LogicOp) (t u whole : Expression) (A B : Bag) (r : Result (Option (Vec Row Global)) AllocError)
    → whole ≡ two op t u → StandsFor ops from t A → StandsFor ops from u B
    → IfOk r (λ found. IfSome found (λ v. GivesTwo ops op (columns_of t) (columns_of u) A B v.items))
    → IfOk r (λ found. IfSome found (λ v. StandsFor ops from whole v.items))
two_stands ops from op t u whole A B r e left right given =
    rw e
    (IfOk-weaker
    r
    (λ (found : Option (Vec Row Global)). IfSome found (λ v. GivesTwo ops op (columns_of t) (columns_of u) A B v.items))
    (λ (found : Option (Vec Row Global)). IfSome found (λ v. StandsFor ops from (two op t u) v.items))
    over
    given)
  where
    over : (found : Option (Vec Row Global)) → IfSome found (λ v. GivesTwo ops op (columns_of t) (columns_of u) A B v.items) → IfSome found (λ v. StandsFor ops from (two op t u) v.items)
    over None h = tt
    over (Some v) h = (A, B, left, right, h)
