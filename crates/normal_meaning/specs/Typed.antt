-- Predicates that sink stay typed.
use Rattle.std.specs.Prelude.{◌≡◌, ℕ, true}
use Rattle.scope_value.specs.declared.schema.ColType.{ColType}
use Rattle.script_trees.specs.declared.op.PairOp.TheVariants.{And}
use Rattle.scope_expr.specs.declared.expr.Expr.{Expr}
use Rattle.scope_expr.specs.declared.expr.Expr.TheVariants.{Pair}
use Rattle.scope_expr.specs.Kinds.{EachColumn, is_typed, kind_of, takes_truth}
use Rattle.scope_expr.specs.Moved.{with_columns}

-- a typed predicate
abbrev pub IsPredicate : Expr → Type 0
IsPredicate e = (is_typed e ≡ true) × (takes_truth e ≡ true)

-- typed expressions of the columns' types in place of columns keep a predicate one
abbrev pub KeepsPredicate : Type 0
KeepsPredicate = (put : ℕ → ColType → Expr) (e : Expr) → IsPredicate e → EachColumn (λ c k. (is_typed (put c k) ≡ true) × (kind_of (put c k) ≡ k)) e → IsPredicate (with_columns put e)

-- two predicates joined are one
abbrev pub JoinsPredicates : Type 0
JoinsPredicates = (f e : Expr) → IsPredicate f → IsPredicate e → IsPredicate (Pair And f e)
