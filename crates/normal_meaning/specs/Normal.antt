-- Which expressions are in normal form.
use Rattle.std.specs.Prelude.{◌≡◌, Bool, true, false, List, [], ◌∷◌}
use Rattle.script_trees.specs.declared.op.PairOp.TheVariants.{And}
use Rattle.scope_expr.specs.declared.expr.Expr.{Expr, end_of-Expr, more_of-Expr}
use Rattle.scope_expr.specs.declared.expr.Expr.TheVariants.{Pair'}
use Rattle.logical_trees.specs.declared.logic_op.LogicOp.TheVariants.{Filter}
use Rattle.logical_trees.specs.Tree.{Expression, leaf, one, two}
use Rattle.normal_meaning.specs.Sinking.{conjuncts, can_sink}

-- the expression is no `&&`
abbrev pub is_conjunct : Expr → Bool
is_conjunct (Pair' And s a t b) = false
is_conjunct e = true

-- the conjuncts are joined to the left
abbrev pub IsChain : Expr → Type 0
IsChain (Pair' And s (more_of-Expr a end_of-Expr) t (more_of-Expr b end_of-Expr)) = IsChain a × (is_conjunct b ≡ true)
IsChain e = Unit {0}

abbrev pub is_filter : Expression → Bool
is_filter (one (Filter e) t) = true
is_filter t = false

-- none of these can sink into the expression
abbrev pub AreStuck : Expression → List Expr → Type 0
AreStuck t [] = Unit {0}
AreStuck t (e ∷ more) = (can_sink t e ≡ false) × AreStuck t more

-- no conjunct of a Filter can sink, and no Filter stands directly over another
abbrev pub IsNormal : Expression → Type 0
IsNormal (leaf op) = Unit {0}
IsNormal (one (Filter e) t) = IsNormal t × (is_filter t ≡ false) × AreStuck t (conjuncts e) × IsChain e
IsNormal (one op t) = IsNormal t
IsNormal (two op t u) = IsNormal t × IsNormal u

-- the expression without its Filters
abbrev pub bare : Expression → Expression
bare (leaf op) = leaf op
bare (one (Filter e) t) = bare t
bare (one op t) = one op (bare t)
bare (two op t u) = two op (bare t) (bare u)
