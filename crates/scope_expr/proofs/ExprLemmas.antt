-- What the definitions over typed expressions give, by the constructors that the code uses.
use Rattle.std.proofs.Common.{◌≡◌, refl, ◌&&◌}
use denote.Hole.Carrier.{hidden}
use Rattle.scope_value.specs.declared.schema.ColType.TheVariants.{Long, Bool as Truths}
use Rattle.script_trees.specs.declared.op.PairOp.{PairOp}
use Rattle.scope_expr.specs.declared.expr.Expr.{Expr}
use Rattle.scope_expr.specs.declared.expr.Expr.TheBlock.{shape-the_row-Expr-0, hidden-the_row-Expr-0}
use Rattle.scope_expr.specs.declared.expr.Expr.TheVariants.{Neg, Not, Pair}
use Rattle.scope_expr.specs.Kinds.{kind_of, op_kind, is_typed, takes_number, takes_truth, are_operands}

pub kind_neg : (a : Expr) → kind_of (Neg a) ≡ Long
unfolding shape-the_row-Expr-0 hidden-the_row-Expr-0 hidden
kind_neg a = refl

pub kind_not : (a : Expr) → kind_of (Not a) ≡ Truths
unfolding shape-the_row-Expr-0 hidden-the_row-Expr-0 hidden
kind_not a = refl

pub kind_pair : (op : PairOp) (a b : Expr) → kind_of (Pair op a b) ≡ op_kind op
unfolding shape-the_row-Expr-0 hidden-the_row-Expr-0 hidden
kind_pair op a b = refl

pub typed_neg : (a : Expr) → is_typed (Neg a) ≡ (is_typed a && takes_number a)
unfolding shape-the_row-Expr-0 hidden-the_row-Expr-0 hidden
typed_neg a = refl

pub typed_not : (a : Expr) → is_typed (Not a) ≡ (is_typed a && takes_truth a)
unfolding shape-the_row-Expr-0 hidden-the_row-Expr-0 hidden
typed_not a = refl

pub typed_pair : (op : PairOp) (a b : Expr) → is_typed (Pair op a b) ≡ (is_typed a && (is_typed b && are_operands op a b))
unfolding shape-the_row-Expr-0 hidden-the_row-Expr-0 hidden
typed_pair op a b = refl
