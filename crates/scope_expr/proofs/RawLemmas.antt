-- What the definitions over written expressions give, by the constructors that the code uses.
use Rattle.std.proofs.Common.{◌≡◌, refl, ℕ, Bool, false, ◌||◌}
use denote.Hole.Carrier.{hidden}
use Rattle.script_trees.specs.declared.op.PairOp.{PairOp}
use Rattle.script_trees.specs.declared.raw.RawRef.{RawRef}
use Rattle.script_trees.specs.declared.raw.RawExpr.{RawExpr}
use Rattle.script_trees.specs.declared.raw.RawExpr.TheBlock.{shape-the_row-RawExpr-0, hidden-the_row-RawExpr-0}
use Rattle.script_trees.specs.declared.raw.RawExpr.TheVariants.{Neg, Not, Pair}
use Rattle.scope_expr.specs.declared.expr.Expr.TheVariants as expr
use Rattle.scope_expr.specs.declared.scope.Scope.{Scope}
use Rattle.scope_expr.specs.Names.{names_some, bound}

pub some_neg : (p : RawRef → Bool) (q : ℕ → Bool) (a : RawExpr) → names_some p q (Neg a) ≡ names_some p q a
unfolding shape-the_row-RawExpr-0 hidden-the_row-RawExpr-0 hidden
some_neg p q a = refl

pub some_not : (p : RawRef → Bool) (q : ℕ → Bool) (a : RawExpr) → names_some p q (Not a) ≡ names_some p q a
unfolding shape-the_row-RawExpr-0 hidden-the_row-RawExpr-0 hidden
some_not p q a = refl

pub some_pair : (p : RawRef → Bool) (q : ℕ → Bool) (op : PairOp) (a b : RawExpr) → names_some p q (Pair op a b) ≡ (names_some p q a || names_some p q b)
unfolding shape-the_row-RawExpr-0 hidden-the_row-RawExpr-0 hidden
some_pair p q op a b = refl

pub bound_neg : (names : Scope) (a : RawExpr) → bound names (Neg a) ≡ expr.Neg (bound names a)
unfolding shape-the_row-RawExpr-0 hidden-the_row-RawExpr-0 hidden
bound_neg names a = refl

pub bound_not : (names : Scope) (a : RawExpr) → bound names (Not a) ≡ expr.Not (bound names a)
unfolding shape-the_row-RawExpr-0 hidden-the_row-RawExpr-0 hidden
bound_not names a = refl

pub bound_pair : (names : Scope) (op : PairOp) (a b : RawExpr) → bound names (Pair op a b) ≡ expr.Pair op (bound names a) (bound names b)
unfolding shape-the_row-RawExpr-0 hidden-the_row-RawExpr-0 hidden
bound_pair names op a b = refl

-- a second operand decides where the first has none
pub some_second : (p : RawRef → Bool) (q : ℕ → Bool) (op : PairOp) (a b a' b' : RawExpr) (r s : Bool)
    → a' ≡ a → b' ≡ b → r ≡ names_some p q a' → r ≡ false → s ≡ names_some p q b' → s ≡ names_some p q (Pair op a b)
some_second p q op a b a' b' r s e f first none second = rw (some_pair, ← e, ← f, ← first, none) second
