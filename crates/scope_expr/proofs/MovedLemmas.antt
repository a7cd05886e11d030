-- What the definitions over moved expressions give, by the constructors that the code uses.
use Rattle.std.proofs.Common.{◌≡◌, refl, sym, subst, ◌∙◌, ℕ, Bool, true, ◌||◌, nat_eq, ◌⊎◌, inl, inr, List, [], ◌++◌}
use denote.Hole.Carrier.{hidden}
use Rattle.script_trees.specs.declared.op.PairOp.{PairOp}
use Rattle.scope_expr.specs.declared.expr.Expr.{Expr, end_of-Expr, more_of-Expr}
use Rattle.scope_expr.specs.declared.expr.Expr.TheBlock.{shape-the_row-Expr-0, hidden-the_row-Expr-0}
use Rattle.scope_expr.specs.declared.expr.Expr.TheVariants.{Literal, Col, Neg, Neg', Not, Not', Pair, Pair'}
use Rattle.col_sets.specs.Sets.{has}
use Rattle.col_sets.specs.Tests.{either, or_left, or_right, from_test, to_test}
use Rattle.col_sets.specs.Listed.{has-append}
use Rattle.scope_expr.specs.Kinds.{EachColumn}
use Rattle.scope_expr.specs.Moved.{columns, moved}

pub moved_neg : (f : ℕ → ℕ) (a : Expr) → moved f (Neg a) ≡ Neg (moved f a)
unfolding shape-the_row-Expr-0 hidden-the_row-Expr-0 hidden
moved_neg f a = refl

pub moved_not : (f : ℕ → ℕ) (a : Expr) → moved f (Not a) ≡ Not (moved f a)
unfolding shape-the_row-Expr-0 hidden-the_row-Expr-0 hidden
moved_not f a = refl

pub moved_pair : (f : ℕ → ℕ) (op : PairOp) (a b : Expr) → moved f (Pair op a b) ≡ Pair op (moved f a) (moved f b)
unfolding shape-the_row-Expr-0 hidden-the_row-Expr-0 hidden
moved_pair f op a b = refl

pub columns_neg : (a : Expr) → columns (Neg a) ≡ columns a
unfolding shape-the_row-Expr-0 hidden-the_row-Expr-0 hidden
columns_neg a = refl

pub columns_not : (a : Expr) → columns (Not a) ≡ columns a
unfolding shape-the_row-Expr-0 hidden-the_row-Expr-0 hidden
columns_not a = refl

pub columns_pair : (op : PairOp) (a b : Expr) → columns (Pair op a b) ≡ columns a ++ columns b
unfolding shape-the_row-Expr-0 hidden-the_row-Expr-0 hidden
columns_pair op a b = refl

-- each column is in a list that has all columns
pub each_in : (e : Expr) (all : List ℕ) → ((c : ℕ) → has (columns e) c ≡ true → has all c ≡ true) → EachColumn (λ c k. has all c ≡ true) e
each_in (Literal v) all h = tt
each_in (Col c k) all h = h c (or_left _ _ (to_test c c refl))
each_in (Neg' s (more_of-Expr a end_of-Expr)) all h = each_in a all h
each_in (Not' s (more_of-Expr a end_of-Expr)) all h = each_in a all h
each_in (Pair' op s (more_of-Expr a end_of-Expr) t (more_of-Expr b end_of-Expr)) all h = (
  each_in a all (λ c m. h c (has-append (columns a) (columns b) c ∙ or_left _ _ m)),
  each_in b all (λ c m. h c (has-append (columns a) (columns b) c ∙ or_right _ _ m)),
)

-- what holds of each column holds of one of the list
pub in_each : (P : ℕ → Type 0) (e : Expr) → EachColumn (λ c k. P c) e → (c : ℕ) → has (columns e) c ≡ true → P c
in_each P (Literal v) all c h = absurd (cc)
in_each P (Col d k) all c h = go (either _ _ h)
  where
    go : (nat_eq d c ≡ true) ⊎ (has [] c ≡ true) → P c
    go (inl e) = subst P (from_test d c e) all
    go (inr e) = absurd (cc)
in_each P (Neg' s (more_of-Expr a end_of-Expr)) all c h = in_each P a all c h
in_each P (Not' s (more_of-Expr a end_of-Expr)) all c h = in_each P a all c h
in_each P (Pair' op s (more_of-Expr a end_of-Expr) t (more_of-Expr b end_of-Expr)) all c h =
    go (in_each P a all.0 c) (in_each P b all.1 c) (either _ _ (sym (has-append (columns a) (columns b) c) ∙ h))
  where
    go : (has (columns a) c ≡ true → P c) → (has (columns b) c ≡ true → P c) → (has (columns a) c ≡ true) ⊎ (has (columns b) c ≡ true) → P c
    go here there (inl m) = here m
    go here there (inr m) = there m
