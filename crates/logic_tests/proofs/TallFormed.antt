-- The tall expressions of the tests are formed, and their predicates are over the columns 0 to 3.
use Rattle.std.proofs.Common.{◌≡◌, ℕ, true, List, Result, IfOk, refl, sym, subst}
use Rattle.std.proofs.lemmas.Result.{IfOk-weaker}
use Rattle.col_sets.specs.Sets.{has, columns_where}
use denote.Hole.Carrier.{hidden}
use Rattle.scope_value.specs.declared.value.Value.{Value}
use Rattle.script_trees.specs.declared.op.PairOp.{PairOp}
use Rattle.scope_expr.specs.declared.expr.Expr.{Expr}
use Rattle.scope_expr.specs.declared.expr.Expr.TheVariants.{Literal, Pair}
use Rattle.scope_expr.specs.declared.expr.Expr.TheBlock.{shape-the_row-Expr-0, hidden-the_row-Expr-0}
use Rattle.logical_trees.specs.declared.logic_op.LogicOp.TheVariants.{Scan, Filter}
use Rattle.logical_trees.specs.Tree.{Expression, leaf, one}
use Rattle.logical_trees.specs.Formed.{IsOver}
use Rattle.logic_tests.specs.Worked.{number_column}
use Rattle.logic_tests.specs.Tall.{four_columns, IsOverFour}

-- a column, a literal, and an operator between two expressions
pub column-over : (e : Expr) (c : ℕ) → e ≡ number_column c → has four_columns c ≡ true → IsOver four_columns e
column-over e c is there = subst (IsOver four_columns) (sym is) there

pub literal-over : (e : Expr) (v : Value) → e ≡ Literal v → IsOver four_columns e
literal-over e v is = subst (IsOver four_columns) (sym is) tt

pub pair-over : (op : PairOp) (a b : Expr) → IsOver four_columns a → IsOver four_columns b → IsOver four_columns (Pair op a b)
unfolding shape-the_row-Expr-0 hidden-the_row-Expr-0 hidden
pair-over op a b h k = (h, k)

-- the same where there may be no memory for it
pub made-over : {E : Type 0} (made : Result Expr E) (op : PairOp) (a b : Expr) → IsOver four_columns a → IsOver four_columns b → IfOk made (λ e. e ≡ Pair op a b) → IfOk made (IsOver four_columns)
made-over made op a b h k = IfOk-weaker made (λ e. e ≡ Pair op a b) (IsOver four_columns) (λ e is. subst (IsOver four_columns) (sym is) (pair-over op a b h k))

-- the rows, and those of which a predicate holds
pub rows-over : IsOverFour (leaf (Scan 0 four_columns))
unfolding columns_where
rows-over = (refl, refl)

pub filter-over : (t : Expression) (e : Expr) → IsOver four_columns e → IsOverFour t → IsOverFour (one (Filter e) t)
filter-over t e over h = ((h.0, subst (λ (cols : List ℕ). IsOver cols e) (sym h.1) over), h.1)
