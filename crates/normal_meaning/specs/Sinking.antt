-- Where the conjuncts of a Filter sink.
use Rattle.std.specs.Prelude.{ℕ, Bool, true, false, ◌&&◌, ◌||◌, if◌then◌else◌, List, [], ◌∷◌, ◌++◌, slice_get}
use Rattle.std.specs.Option.{option_map_or}
use Rattle.col_sets.specs.Sets.{has, rank}
use Rattle.scope_value.specs.declared.schema.ColType.{ColType}
use Rattle.script_trees.specs.declared.op.PairOp.TheVariants.{And}
use Rattle.scope_expr.specs.declared.expr.Expr.{Expr, end_of-Expr, more_of-Expr}
use Rattle.scope_expr.specs.declared.expr.Expr.TheVariants.{Literal, Col, Neg', Not', Pair, Pair'}
use Rattle.logical_trees.specs.declared.logic_op.LogicOp.{LogicOp}
use Rattle.logical_trees.specs.declared.logic_op.LogicOp.TheVariants.{Filter, Project, Join, Group}
use Rattle.logical_trees.specs.Tree.{Expression, leaf, one, two, columns_of}
use Rattle.scope_expr.specs.Moved.{each_column, with_columns}

-- the conjuncts of a predicate, whose `&&` are taken apart
abbrev pub conjuncts : Expr → List Expr
conjuncts (Pair' And s (more_of-Expr a end_of-Expr) t (more_of-Expr b end_of-Expr)) = conjuncts a ++ conjuncts b
conjuncts e = e ∷ []

-- a plain column or a literal
abbrev pub is_simple : Expr → Bool
is_simple (Literal v) = true
is_simple (Col c k) = true
is_simple e = false

-- the column has an item that is a plain column or a literal
abbrev pub has_simple : List Expr → List ℕ → ℕ → Bool
has_simple items cols c = option_map_or is_simple (slice_get items (rank cols c)) false

-- the item of a column
abbrev pub item_for : List Expr → List ℕ → ℕ → ColType → Expr
item_for items cols c k = option_map_or (λ e. e) (slice_get items (rank cols c)) (Col c k)

abbrev pub is_keyed : List ℕ → Bool
is_keyed [] = false
is_keyed (c ∷ s) = true

-- a conjunct over a node sinks below it
abbrev pub passes : LogicOp → Expr → Bool
passes (Project items cols) e = each_column (has_simple items cols) e
passes (Group args) e = is_keyed args.keys && each_column (has args.keys) e
passes op e = false

-- the conjunct as it stands below: items take the place of the columns that they give
abbrev pub below : LogicOp → Expr → Expr
below (Project items cols) e = with_columns (item_for items cols) e
below op e = e

-- a conjunct over a node with two children sinks to the one that has these columns
abbrev pub goes_to : LogicOp → List ℕ → Expr → Bool
goes_to (Join on) cols e = each_column (has cols) e
goes_to op cols e = false

-- a conjunct over the expression can sink
abbrev pub can_sink : Expression → Expr → Bool
can_sink (leaf op) e = false
can_sink (one op t) e = passes op e
can_sink (two op t u) e = goes_to op (columns_of t) e || goes_to op (columns_of u) e

-- the expression with a conjunct over it, sunk as far as it can: beside a conjunct that is there, it comes after it
abbrev pub sink : Expression → Expr → Expression
sink (leaf op) e = one (Filter e) (leaf op)
sink (one (Filter f) t) e = if can_sink t e then one (Filter f) (sink t e) else one (Filter (Pair And f e)) t
sink (one op t) e = if passes op e then one op (sink t (below op e)) else one (Filter e) (one op t)
sink (two op t u) e =
    if goes_to op (columns_of t) e then two op (sink t e) u else if goes_to op (columns_of u) e then two op t (sink u e) else one (Filter e) (two op t u)

-- one conjunct after the other
abbrev pub sink_all : Expression → List Expr → Expression
sink_all t [] = t
sink_all t (e ∷ more) = sink_all (sink t e) more

-- the normal form: from below, each Filter's conjuncts sink into what stands under it
abbrev pub normal : Expression → Expression
normal (leaf op) = leaf op
normal (one (Filter e) t) = sink_all (normal t) (conjuncts e)
normal (one op t) = one op (normal t)
normal (two op t u) = two op (normal t) (normal u)
