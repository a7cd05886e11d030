-- The facts of the shared results, found one after the other.
use Rattle.std.proofs.Common.{◌≡◌, ◌≢◌, ℕ, zero, suc, ◌+◌, ◌<◌, ◌≤◌, Bool, true, false, List, [], ◌∷◌, map, take, set, get_or, length, nat_eq, refl, sym, ap, ap₂, ◌∙◌, subst, arith, Some, slice_get}
use Rattle.std.specs.Prelude.{IsSomeAnd, IfSome, option_map}
use Rattle.std.proofs.lemmas.Bool.Decides.{nat_tests}
use Rattle.std.proofs.lemmas.List.{length-map, take-set-le, take-take, length-take-le}
use Rattle.std.proofs.lemmas.Option.{slice_get_within, slice_get-map}
use Rattle.col_sets.specs.Tests.{from_test}
use Rattle.fd_closure.specs.declared.facts.Facts.{Facts}
use Rattle.logical_dag.specs.declared.dag.Dag.{Dag}
use Rattle.logical_dag.specs.declared.dag.Output.{Output}
use Rattle.logical_trees.specs.declared.logical.Logical.{Logical}
use Rattle.logical_trees.specs.Tree.{Expression, tree_of, columns_of}
use Rattle.logical_trees.specs.Formed.{IsFormed}
use Rattle.logical_dag.specs.Facts.{AreFactsOf}
use Rattle.logical_dag.specs.Laws.{lent_columns}
use Rattle.logical_dag.specs.Scripts.{shared_trees, output_trees, all_trees, IsWritten, IsBindable}
use Rattle.logical_dag.specs.Places.{AreSharedFacts}
use Rattle.logical_dag.proofs.Placed.{some_and, and_some, if_some, shared_columns, tree_formed}
use Rattle.list_lemmas.specs.Reading.{read_some}
use Rattle.list_lemmas.specs.Reading.{get_front, get_past}
use Rattle.logical_dag.proofs.SharedFacts.{to_if, shared_lent, first_columns}

-- the first n of these are the facts of the first n trees, each by those of the earlier ones
abbrev pub AreFirstFacts : List Expression → ℕ → List Facts → Type 0
AreFirstFacts trees n known = (i : ℕ) → i < n → IfSome (slice_get trees i) (λ t. IsSomeAnd (slice_get known i) (AreFactsOf (take i known) t))

-- ---- places of lists

-- a write at another place changes nothing here
get_other : {X : Type 0} (xs : List X) (n i : ℕ) (x : X) → i ≢ n → slice_get (set xs n x) i ≡ slice_get xs i
get_other [] n i x h = refl
get_other (y ∷ ys) zero zero x h = absurd (h refl)
get_other (y ∷ ys) zero (suc i) x h = refl
get_other (y ∷ ys) (suc n) zero x h = refl
get_other (y ∷ ys) (suc n) (suc i) x h = get_other ys n i x (λ e. h (ap suc e))

-- what is written is there
get_same : {X : Type 0} (xs : List X) (n : ℕ) (x : X) → n < length xs → slice_get (set xs n x) n ≡ Some x
get_same [] n x l = absurd (omega arith)
get_same (y ∷ ys) zero x l = refl
get_same (y ∷ ys) (suc n) x l = get_same ys n x (omega arith)

-- what stands below n stands in the first n
get_first : {X : Type 0} (n : ℕ) (xs : List X) (i : ℕ) → i < n → slice_get (take n xs) i ≡ slice_get xs i
get_first zero xs i l = absurd (omega arith)
get_first (suc n) [] i l = refl
get_first (suc n) (y ∷ ys) zero l = refl
get_first (suc n) (y ∷ ys) (suc i) l = get_first n ys i (omega arith)

-- ---- one more

-- the facts of the next tree
pub first_put : (trees : List Expression) (n : ℕ) (known : List Facts) (t : Expression) (f : Facts) → n < length known → slice_get trees n ≡ Some t → AreFactsOf (take n known) t f
    → AreFirstFacts trees n known → AreFirstFacts trees (n + 1) (set known n f)
first_put trees n known t f l e new before i m = go (nat_eq i n) refl
  where
    go : (b : Bool) → nat_eq i n ≡ b → IfSome (slice_get trees i) (λ u. IsSomeAnd (slice_get (set known n f) i) (AreFactsOf (take i (set known n f)) u))
    go true h =
        let same : i ≡ n = from_test i n h in
        subst (λ (j : ℕ). IfSome (slice_get trees j) (λ u. IsSomeAnd (slice_get (set known n f) j) (AreFactsOf (take j (set known n f)) u))) (sym same)
        (subst (λ o. IfSome o (λ u. IsSomeAnd (slice_get (set known n f) n) (AreFactsOf (take n (set known n f)) u))) (sym e)
        (and_some (slice_get (set known n f) n) (AreFactsOf (take n (set known n f)) t) f (get_same known n f l)
        (subst (λ (fs : List Facts). AreFactsOf fs t f) (sym (take-set-le n known n f (omega arith))) new)))
    go false h =
        let other : i ≢ n = grind (arith, nat_tests) in
        let below : i < n = omega arith in
        subst (λ o. IfSome (slice_get trees i) (λ u. IsSomeAnd o (AreFactsOf (take i (set known n f)) u))) (sym (get_other known n i f other))
        (subst (λ (fs : List Facts). IfSome (slice_get trees i) (λ u. IsSomeAnd (slice_get known i) (AreFactsOf fs u))) (sym (take-set-le i known n f (omega arith))) (before i below))

columns_too : (trees : List Expression) (n : ℕ) (known : List Facts) → AreFirstFacts trees n known
    → (i : ℕ) → i < n → IfSome (slice_get trees i) (λ t. IsSomeAnd (slice_get known i) (λ f. f.columns ≡ columns_of t))
columns_too trees n known h i l = to_if (slice_get trees i) _ each
  where
    each : (t : Expression) → slice_get trees i ≡ Some t → IsSomeAnd (slice_get known i) (λ f. f.columns ≡ columns_of t)
    each t e =
        let f = some_and (slice_get known i) (AreFactsOf (take i known) t) (if_some (slice_get trees i) (λ u. IsSomeAnd (slice_get known i) (AreFactsOf (take i known) u)) t e (h i l)) in
        and_some (slice_get known i) (λ g. g.columns ≡ columns_of t) f.0 f.1 f.2.columns

-- the next tree is formed over the columns of the first facts
pub next_formed : (dag : Dag) → IsBindable dag → (n : ℕ) (known : List Facts) (t : Expression) → n ≤ length known → slice_get (shared_trees dag) n ≡ Some t → AreFirstFacts (shared_trees dag) n known
    → IsFormed (lent_columns (take n known)) t
next_formed dag bound n known t l e h =
    let written : IsWritten (take n (shared_columns dag)) t = if_some (slice_get (shared_trees dag) n) (IsWritten (take n (shared_columns dag))) t e (bound.shared n) in
    let inside : n < length (shared_trees dag) = slice_get_within (shared_trees dag) n t e in
    subst (λ (results : List (List ℕ)). IsFormed results t) (first_columns n (shared_trees dag) known (omega arith) l (columns_too (shared_trees dag) n known h)) written.formed

-- ---- all of them

-- the facts of all trees
pub first_all : (dag : Dag) (n : ℕ) (known : List Facts) → n ≡ length (shared_trees dag) → n ≤ length known → AreFirstFacts (shared_trees dag) n known → AreSharedFacts dag (take n known)
first_all dag n known e l h = record { each_one = length-take-le n known l ∙ e; facts = λ i. to_if (slice_get (shared_trees dag) i) _ (each i) }
  where
    each : (i : ℕ) (t : Expression) → slice_get (shared_trees dag) i ≡ Some t → IsSomeAnd (slice_get (take n known) i) (AreFactsOf (take i (take n known)) t)
    each i t k =
        let inside : i < length (shared_trees dag) = slice_get_within (shared_trees dag) i t k in
        let low : i < n = omega arith in
        let f = some_and (slice_get known i) (AreFactsOf (take i known) t) (if_some (slice_get (shared_trees dag) i) (λ u. IsSomeAnd (slice_get known i) (AreFactsOf (take i known) u)) t k (h i low)) in
        and_some (slice_get (take n known) i) (AreFactsOf (take i (take n known)) t) f.0 (get_first n known i low ∙ f.1)
        (subst (λ (fs : List Facts). AreFactsOf fs t f.0) (sym (take-take i n known (omega arith))) f.2)

-- a tree of the list stands at its place
pub tree_got : (trees : List Logical) (i : ℕ) (t : Logical) → i < length trees → t ≡ get_or trees i t → slice_get (map tree_of trees) i ≡ Some (tree_of t)
tree_got trees i t l e = slice_get-map tree_of trees i ∙ ap (option_map tree_of) (read_some trees i t l e)

-- and among all trees of a script, the shared ones first
pub shared_there : (dag : Dag) (items : List Logical) (i : ℕ) (t : Logical) → items ≡ dag.shared → i < length items → t ≡ get_or items i t → slice_get (all_trees dag) i ≡ Some (tree_of t)
shared_there dag items i t same l e = get_front (shared_trees dag) (output_trees dag) i (tree_of t) (subst (λ (trees : List Logical). slice_get (map tree_of trees) i ≡ Some (tree_of t)) same (tree_got items i t l e))

pub output_there : (dag : Dag) (items : List Output) (i : ℕ) (o : Output) → items ≡ dag.outputs → i < length items → o ≡ get_or items i o → slice_get (all_trees dag) (length dag.shared + i) ≡ Some (tree_of o.tree)
output_there dag items i o same l e =
    get_past (shared_trees dag) (output_trees dag) (length dag.shared + i) i (tree_of o.tree) (ap (λ n. n + i) (sym (length-map dag.shared tree_of)))
    (subst (λ (outputs : List Output). slice_get (map (λ p. tree_of p.tree) outputs) i ≡ Some (tree_of o.tree)) same
    (slice_get-map (λ (p : Output). tree_of p.tree) items i ∙ ap (option_map (λ (p : Output). tree_of p.tree)) (read_some items i o l e)))

-- a tree of a script is formed over the columns of the shared results' facts
pub lent_formed : (dag : Dag) → IsBindable dag → (shared : List Facts) → AreSharedFacts dag shared → (i : ℕ) (t : Expression) → slice_get (all_trees dag) i ≡ Some t → IsFormed (lent_columns shared) t
lent_formed dag bound shared known i t e = subst (λ (results : List (List ℕ)). IsFormed results t) (shared_lent dag bound shared known) (tree_formed dag bound i t e)
