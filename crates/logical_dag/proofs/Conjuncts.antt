-- What a predicate states of rows for which it holds, conjunct by conjunct.
use Rattle.std.proofs.Common.{◌≡◌, ℕ, ◌<◌, true, refl, sym, ap, ◌∙◌, subst, ◌⊎◌, inl, inr}
use denote.Hole.Carrier.{hidden}
use Rattle.col_sets.specs.Sets.{has, with_column}
use Rattle.script_trees.specs.declared.op.PairOp.{PairOp}
use Rattle.script_trees.specs.declared.op.PairOp.TheVariants.{And, Eq}
use Rattle.scope_expr.specs.declared.expr.Expr.{Expr, end_of-Expr, more_of-Expr}
use Rattle.scope_expr.specs.declared.expr.Expr.TheBlock.{shape-the_row-Expr-0, hidden-the_row-Expr-0}
use Rattle.scope_expr.specs.declared.expr.Expr.TheVariants.{Literal, Col, Neg', Not', Pair', Pair}
use Rattle.scope_value.specs.declared.value.Value.{Value}
use Rattle.scope_value.specs.declared.schema.ColType.{ColType}
use Rattle.fd_closure.specs.declared.facts.Facts.{Facts}
use Rattle.fd_closure.specs.Known.{equal_of, IsMerged}
use Rattle.logical_dag.specs.Facts.{stated, SomeConjunct, Equates, IsColumnAndLiteral, AreColumns, SetsConstant, SetsEqual}
use Rattle.logical_dag.specs.Known.{IsOwn, AreBelow, AreClasses, AreConstants}
use Rattle.logical_dag.proofs.Either.{either_second, regrouped, ungrouped}
use Rattle.logical_dag.proofs.Constants.{constants_same, constants_chain, constants_with}
use Rattle.logical_dag.proofs.Classes.{classes_same, classes_moved, classes_chain, classes_kept, classes_with}

-- what is no pair states nothing
pub not_pair : (R : Expr → Expr → Type 0) (e : Expr) → ((op : PairOp) (a b : Expr) → e ≡ Pair op a b → ⊥) → SomeConjunct (Equates R) e → ⊥
unfolding shape-the_row-Expr-0 hidden-the_row-Expr-0 hidden
not_pair R (Literal v) h k = k
not_pair R (Col c j) h k = k
not_pair R (Neg' s a) h k = k
not_pair R (Not' s a) h k = k
not_pair R (Pair' op s (more_of-Expr a end_of-Expr) t (more_of-Expr b end_of-Expr)) h k = h op a b refl

-- nor does a pair of another operator
pub other_pair : (R : Expr → Expr → Type 0) (op : PairOp) (a b : Expr) → (op ≡ And → ⊥) → (op ≡ Eq → ⊥) → SomeConjunct (Equates R) (Pair op a b) → ⊥
unfolding shape-the_row-Expr-0 hidden-the_row-Expr-0 hidden
other_pair R And a b h k m = h refl
other_pair R Eq a b h k m = k refl
other_pair R op a b h k m = m

-- `&&` states what its sides state
pub both_sides : (P : Expr → Type 0) (a b : Expr) → SomeConjunct P (Pair And a b) ≡ (SomeConjunct P a ⊎ SomeConjunct P b)
unfolding shape-the_row-Expr-0 hidden-the_row-Expr-0 hidden
both_sides P a b = refl

-- an equation states what its sides are
pub one_equation : (R : Expr → Expr → Type 0) (a b : Expr) → SomeConjunct (Equates R) (Pair Eq a b) ≡ R a b
unfolding shape-the_row-Expr-0 hidden-the_row-Expr-0 hidden
one_equation R a b = refl

-- where two sides are no column and a literal
pub no_constant : (c : ℕ) (a b : Expr) → ((d : ℕ) (k : ColType) (v : Value) → a ≡ Col d k → b ≡ Literal v → ⊥) → ((d : ℕ) (k : ColType) (v : Value) → a ≡ Literal v → b ≡ Col d k → ⊥) → IsColumnAndLiteral c a b → ⊥
no_constant c (Col d k) (Literal v) h m e = h d k v refl refl
no_constant c (Literal v) (Col d k) h m e = m d k v refl refl
no_constant c (Literal v) b h m e = e
no_constant c (Col d k) b h m e = e
no_constant c (Neg' s a) b h m e = e
no_constant c (Not' s a) b h m e = e
no_constant c (Pair' op s a t b) d h m e = e

-- or no two columns
pub no_equal : (c d : ℕ) (a b : Expr) → ((i : ℕ) (j : ColType) (k : ℕ) (l : ColType) → a ≡ Col i j → b ≡ Col k l → ⊥) → AreColumns c d a b → ⊥
no_equal c d (Col i j) (Col k l) h e = h i j k l refl refl
no_equal c d (Col i j) b h e = e
no_equal c d (Literal v) b h e = e
no_equal c d (Neg' s a) b h e = e
no_equal c d (Not' s a) b h e = e
no_equal c d (Pair' op s a t b) f h e = e

-- an equation of two columns
pub equation_equal : (into g : Facts) (a b : Expr) (c d : ℕ) (j k : ColType) → a ≡ Col c j → b ≡ Col d k → IsOwn into → ((x y : ℕ) → AreColumns x y a b → (x < 128) × (y < 128)) → IsMerged into c d g
    → AreClasses g (λ x y. (equal_of into x y ≡ true) ⊎ AreColumns x y a b)
equation_equal into g a b c d j k e f own below merged =
    classes_with into g c d (λ x y. AreColumns x y a b) own low.0 low.1 merged
    (λ x y m. subst (λ (b : Expr). AreColumns x y (Col c j) b) f (subst (λ (a : Expr). AreColumns x y a b) e m))
    (λ x y m. subst (λ (a : Expr). AreColumns x y a b) (sym e) (subst (λ (b : Expr). AreColumns x y (Col c j) b) (sym f) m))
  where
    low : (c < 128) × (d < 128)
    low = below c d (subst (λ (a : Expr). AreColumns c d a b) (sym e) (subst (λ (b : Expr). AreColumns c d (Col c j) b) (sym f) (refl, refl)))

-- of a column and a literal
pub equation_constant : (into g : Facts) (a b : Expr) (c : ℕ) (j : ColType) (v : Value) → a ≡ Col c j → b ≡ Literal v → g.constants ≡ with_column into.constants c
    → AreConstants g (λ x. (has into.constants x ≡ true) ⊎ IsColumnAndLiteral x a b)
equation_constant into g a b c j v e f is =
    constants_with into g c (λ x. IsColumnAndLiteral x a b) is
    (λ x m. subst (λ (b : Expr). IsColumnAndLiteral x (Col c j) b) f (subst (λ (a : Expr). IsColumnAndLiteral x a b) e m))
    (λ x m. subst (λ (a : Expr). IsColumnAndLiteral x a b) (sym e) (subst (λ (b : Expr). IsColumnAndLiteral x (Col c j) b) (sym f) m))

-- of a literal and a column
pub equation_turned : (into g : Facts) (a b : Expr) (c : ℕ) (j : ColType) (v : Value) → a ≡ Literal v → b ≡ Col c j → g.constants ≡ with_column into.constants c
    → AreConstants g (λ x. (has into.constants x ≡ true) ⊎ IsColumnAndLiteral x a b)
equation_turned into g a b c j v e f is =
    constants_with into g c (λ x. IsColumnAndLiteral x a b) is
    (λ x m. subst (λ (b : Expr). IsColumnAndLiteral x (Literal v) b) f (subst (λ (a : Expr). IsColumnAndLiteral x a b) e m))
    (λ x m. subst (λ (a : Expr). IsColumnAndLiteral x a b) (sym e) (subst (λ (b : Expr). IsColumnAndLiteral x (Literal v) b) (sym f) m))

-- nothing is equal where one side is a literal
pub literal_classes : (into g : Facts) (a b : Expr) (v : Value) → (a ≡ Literal v) ⊎ (b ≡ Literal v) → IsOwn into → g.class ≡ into.class → AreClasses g (λ x y. (equal_of into x y ≡ true) ⊎ AreColumns x y a b)
literal_classes into g a b v side own is =
    classes_moved into g (λ x y. (equal_of into x y ≡ true) ⊎ AreColumns x y a b) is
    (classes_kept into (λ x y. AreColumns x y a b) own (λ x y. no_equal x y a b (λ i j k l e f. none i j k l e f side)))
  where
    none : (i : ℕ) (j : ColType) (k : ℕ) (l : ColType) → a ≡ Col i j → b ≡ Col k l → (a ≡ Literal v) ⊎ (b ≡ Literal v) → ⊥
    none i j k l e f (inl g) = let h : Col i j ≡ Literal v = sym e ∙ g in absurd (cc)
    none i j k l e f (inr g) = let h : Col k l ≡ Literal v = sym f ∙ g in absurd (cc)

-- what `&&` states is below 128, and so what its sides state
pub below_left : (a b : Expr) → AreBelow (SetsEqual (Pair And a b)) → AreBelow (SetsEqual a)
below_left a b h c d m = h c d (rw (both_sides (Equates (AreColumns c d)) a b) (inl m))

pub below_right : (a b : Expr) → AreBelow (SetsEqual (Pair And a b)) → AreBelow (SetsEqual b)
below_right a b h c d m = h c d (rw (both_sides (Equates (AreColumns c d)) a b) (inr m))

-- the constants of `&&` after those of its sides
pub both_constants : (into f g : Facts) (a b : Expr) → AreConstants f (λ c. (has into.constants c ≡ true) ⊎ SetsConstant a c) → AreConstants g (λ c. (has f.constants c ≡ true) ⊎ SetsConstant b c)
    → AreConstants g (λ c. (has into.constants c ≡ true) ⊎ SetsConstant (Pair And a b) c)
both_constants into f g a b h k =
    constants_same g (λ c. ((has into.constants c ≡ true) ⊎ SetsConstant a c) ⊎ SetsConstant b c) (λ c. (has into.constants c ≡ true) ⊎ SetsConstant (Pair And a b) c)
    (constants_chain f g (λ c. (has into.constants c ≡ true) ⊎ SetsConstant a c) (SetsConstant b) h k)
    (λ c m. either_second (λ n. rw (both_sides (Equates (IsColumnAndLiteral c)) a b) n) (regrouped m)) (λ c m. ungrouped (either_second (λ n. rw (both_sides (Equates (IsColumnAndLiteral c)) a b) at n) m))

-- and the equalities
pub both_classes : (into f g : Facts) (a b : Expr) → AreClasses f (λ c d. (equal_of into c d ≡ true) ⊎ SetsEqual a c d) → AreClasses g (λ c d. (equal_of f c d ≡ true) ⊎ SetsEqual b c d)
    → AreClasses g (λ c d. (equal_of into c d ≡ true) ⊎ SetsEqual (Pair And a b) c d)
both_classes into f g a b h k =
    classes_same g (λ c d. ((equal_of into c d ≡ true) ⊎ SetsEqual a c d) ⊎ SetsEqual b c d)
    (classes_chain f g (λ c d. (equal_of into c d ≡ true) ⊎ SetsEqual a c d) (SetsEqual b) h k) (λ c d. (equal_of into c d ≡ true) ⊎ SetsEqual (Pair And a b) c d)
    (λ c d m. stated (either_second (λ n. rw (both_sides (Equates (AreColumns c d)) a b) n) (regrouped m))) (λ c d m. stated (ungrouped (either_second (λ n. rw (both_sides (Equates (AreColumns c d)) a b) at n) m)))

-- the same where the sides are lent
module _ (e : Expr) (op : PairOp) (a b left right : Expr) (is : e ≡ Pair op a b) (i : left ≡ a) (j : right ≡ b) where
  pub conjuncts_constants : op ≡ And → (into f g : Facts) → AreConstants f (λ c. (has into.constants c ≡ true) ⊎ SetsConstant left c) → AreConstants g (λ c. (has f.constants c ≡ true) ⊎ SetsConstant right c)
      → AreConstants g (λ c. (has into.constants c ≡ true) ⊎ SetsConstant e c)
  conjuncts_constants o into f g h k = rw (is, o, ← i, ← j) (both_constants into f g left right h k)

  pub conjuncts_classes : op ≡ And → (into f g : Facts) → (AreBelow (SetsEqual left) → AreClasses f (λ c d. (equal_of into c d ≡ true) ⊎ SetsEqual left c d))
      → (IsOwn f → AreBelow (SetsEqual right) → AreClasses g (λ c d. (equal_of f c d ≡ true) ⊎ SetsEqual right c d))
      → AreBelow (SetsEqual e) → AreClasses g (λ c d. (equal_of into c d ≡ true) ⊎ SetsEqual e c d)
  conjuncts_classes o into f g h k below =
      let low : AreBelow (SetsEqual (Pair And left right)) = subst (λ (e : Expr). AreBelow (SetsEqual e)) all below in
      let first = h (below_left left right low) in
      subst (λ (e : Expr). AreClasses g (λ c d. (equal_of into c d ≡ true) ⊎ SetsEqual e c d)) (sym all)
      (both_classes into f g left right first (k first.own (below_right left right low)))
    where
      all : e ≡ Pair And left right
      all = is ∙ ap (λ (o : PairOp). Pair o a b) o ∙ ap (λ (x : Expr). Pair And x b) (sym i) ∙ ap (λ (y : Expr). Pair And left y) (sym j)

  pub equation_constants : op ≡ Eq → (into g : Facts) → AreConstants g (λ c. (has into.constants c ≡ true) ⊎ IsColumnAndLiteral c left right) → AreConstants g (λ c. (has into.constants c ≡ true) ⊎ SetsConstant e c)
  equation_constants o into g h = constants_same g (λ c. (has into.constants c ≡ true) ⊎ IsColumnAndLiteral c left right) (λ c. (has into.constants c ≡ true) ⊎ SetsConstant e c) h
      (λ c. either_second (λ m. rw (same c) m)) (λ c. either_second (λ m. rw (same c) at m))
    where
      same : (c : ℕ) → SetsConstant e c ≡ IsColumnAndLiteral c left right
      same c = rw (is, o, one_equation (IsColumnAndLiteral c) a b, i, j) refl

  pub equation_classes : op ≡ Eq → (into g : Facts) → (AreBelow (λ c d. AreColumns c d left right) → AreClasses g (λ c d. (equal_of into c d ≡ true) ⊎ AreColumns c d left right))
      → AreBelow (SetsEqual e) → AreClasses g (λ c d. (equal_of into c d ≡ true) ⊎ SetsEqual e c d)
  equation_classes o into g h below =
      classes_same g (λ c d. (equal_of into c d ≡ true) ⊎ AreColumns c d left right) (h (λ c d m. below c d (rw (same c d) m))) (λ c d. (equal_of into c d ≡ true) ⊎ SetsEqual e c d)
      (λ c d m. stated (either_second (λ n. rw (same c d) n) m)) (λ c d m. stated (either_second (λ n. rw (same c d) at n) m))
    where
      same : (c d : ℕ) → SetsEqual e c d ≡ AreColumns c d left right
      same c d = rw (is, o, one_equation (AreColumns c d) a b, i, j) refl
