-- What the definitions over the columns of expressions give, by the constructors that the code uses.
use Rattle.std.proofs.Common.{◌≡◌, refl, ℕ, Bool, true, false, ◌&&◌}
use denote.Hole.Carrier.{hidden}
use Rattle.scope_value.specs.declared.schema.ColType.{ColType}
use Rattle.script_trees.specs.declared.op.PairOp.{PairOp}
use Rattle.scope_expr.specs.declared.expr.Expr.{Expr}
use Rattle.scope_expr.specs.declared.expr.Expr.TheBlock.{shape-the_row-Expr-0, hidden-the_row-Expr-0}
use Rattle.scope_expr.specs.declared.expr.Expr.TheVariants.{Neg, Not, Pair}
use Rattle.scope_expr.specs.Moved.{each_column, with_columns}

pub each_neg : (p : ℕ → Bool) (a : Expr) → each_column p (Neg a) ≡ each_column p a
unfolding shape-the_row-Expr-0 hidden-the_row-Expr-0 hidden
each_neg p a = refl

pub each_not : (p : ℕ → Bool) (a : Expr) → each_column p (Not a) ≡ each_column p a
unfolding shape-the_row-Expr-0 hidden-the_row-Expr-0 hidden
each_not p a = refl

pub each_pair : (p : ℕ → Bool) (op : PairOp) (a b : Expr) → each_column p (Pair op a b) ≡ (each_column p a && each_column p b)
unfolding shape-the_row-Expr-0 hidden-the_row-Expr-0 hidden
each_pair p op a b = refl

pub with_neg : (put : ℕ → ColType → Expr) (a : Expr) → with_columns put (Neg a) ≡ Neg (with_columns put a)
unfolding shape-the_row-Expr-0 hidden-the_row-Expr-0 hidden
with_neg put a = refl

pub with_not : (put : ℕ → ColType → Expr) (a : Expr) → with_columns put (Not a) ≡ Not (with_columns put a)
unfolding shape-the_row-Expr-0 hidden-the_row-Expr-0 hidden
with_not put a = refl

pub with_pair : (put : ℕ → ColType → Expr) (op : PairOp) (a b : Expr) → with_columns put (Pair op a b) ≡ Pair op (with_columns put a) (with_columns put b)
unfolding shape-the_row-Expr-0 hidden-the_row-Expr-0 hidden
with_pair put op a b = refl

-- a second operand decides where the first passes, and the first where it doesn't
pub each_second : (p : ℕ → Bool) (op : PairOp) (a b a' b' : Expr) (r s : Bool) → a' ≡ a → b' ≡ b → r ≡ each_column p a' → r ≡ true → s ≡ each_column p b' → s ≡ each_column p (Pair op a b)
each_second p op a b a' b' r s e f first all second = rw (each_pair, ← e, ← f, ← first, all) second

pub each_first : (p : ℕ → Bool) (op : PairOp) (a b a' : Expr) (r : Bool) → a' ≡ a → r ≡ each_column p a' → r ≡ false → r ≡ each_column p (Pair op a b)
each_first p op a b a' r e first none = rw (each_pair, ← e, ← first, none) refl
