-- The expressions of the tests.
use Rattle.std.specs.Prelude.{ℕ, pos, [], ◌∷◌}
use Rattle.scope_value.specs.declared.value.Value.TheVariants.{Int}
use Rattle.scope_value.specs.declared.schema.ColType.TheVariants.{Long}
use Rattle.script_trees.specs.declared.op.PairOp.TheVariants.{And, Eq}
use Rattle.scope_expr.specs.declared.expr.Expr.{Expr}
use Rattle.scope_expr.specs.declared.expr.Expr.TheVariants.{Literal, Col, Neg, Pair}
use Rattle.logical_trees.specs.declared.logic_op.LogicOp.TheVariants.{Scan, Filter, Group}
use Rattle.logical_trees.specs.Tree.{Expression, leaf, one}
use Rattle.logical_trees.specs.Worked.{counting}

-- a column of numbers
abbrev pub number_column : ℕ → Expr
number_column c = Col c Long

-- `0 == 1 && 1 == 2`
abbrev pub links : Expr
links = Pair And (Pair Eq (number_column 0) (number_column 1)) (Pair Eq (number_column 1) (number_column 2))

-- with `&& 3 == 7`
abbrev pub fixed_links : Expr
fixed_links = Pair And links (Pair Eq (number_column 3) (Literal (Int (pos 7))))

-- `0 == -5`
abbrev pub signed : Expr
signed = Pair Eq (number_column 0) (Neg (Literal (Int (pos 5))))

-- `0 == 1 && 1 == 2 && 3 == 7 && 0 == -5`, grouped to the left
abbrev pub linking : Expr
linking = Pair And fixed_links signed

-- the rows of columns 0 to 3 of which it holds
abbrev pub linked : Expression
linked = one (Filter linking) (leaf (Scan 0 (0 ∷ 1 ∷ 2 ∷ 3 ∷ [])))

-- COUNT(*) of them by column 1, as column 4
abbrev pub counted : Expression
counted = one (Group counting) linked
