-- Filters and where they end: what a reader of the rules expects.
use Rattle.std.specs.Prelude.{◌≡◌, ℕ, pos, true, List, [], ◌∷◌, Some, None}
use Rattle.scope_value.specs.declared.value.Value.TheVariants.{Int, Bool as Truth}
use Rattle.scope_value.specs.declared.schema.ColType.TheVariants.{Long}
use Rattle.script_trees.specs.declared.op.PairOp.TheVariants.{And, Lt, Add}
use Rattle.script_trees.specs.declared.agg.AggKind.TheVariants.{Count}
use Rattle.scope_expr.specs.declared.expr.Expr.{Expr}
use Rattle.scope_expr.specs.declared.expr.Expr.TheVariants.{Literal, Col, Neg, Pair}
use Rattle.logical_trees.specs.declared.logic_op.LogicOp.{LogicOp}
use Rattle.logical_trees.specs.declared.logic_op.LogicOp.TheVariants.{Scan, Filter, Project, Join, Group, Top}
use Rattle.logical_trees.specs.Tree.{Expression, leaf, one, two}
use Rattle.normal_meaning.specs.Sinking.{normal}

abbrev pub col : ℕ → Expr
col c = Col c Long

abbrev pub number : ℕ → Expr
number n = Literal (Int (pos n))

-- `c < 7`
abbrev pub small : ℕ → Expr
small c = Pair Lt (col c) (number 7)

abbrev pub both : Expr → Expr → Expr
both a b = Pair And a b

abbrev pub always : Expr
always = Literal (Truth true)

-- columns 0 and 1, and columns 2 and 3
abbrev pub left_scan : Expression
left_scan = leaf (Scan 0 (0 ∷ 1 ∷ []))

abbrev pub right_scan : Expression
right_scan = leaf (Scan 1 (2 ∷ 3 ∷ []))

abbrev pub join_op : LogicOp
join_op = Join (record { items = (0, 2) ∷ [] })

-- COUNT(*) as column 4 by column 1, or of all rows
abbrev pub counting : List ℕ → LogicOp
counting keys = Group (record { written = Some keys; keys = keys; aggs = record { kind = Count; arg = None; id = 4 } ∷ [] })

-- items: a plain column, a literal, a number with a sign, a sum
abbrev pub items_op : LogicOp
items_op = Project (col 1 ∷ number 5 ∷ Neg (number 5) ∷ Pair Add (col 0) (col 1) ∷ []) (4 ∷ 5 ∷ 6 ∷ 7 ∷ [])

pub record Rules : Type 0 where
  -- conjuncts go to the side whose columns they name, one without columns to the left, and others stay
  pub sides : normal (one (Filter (both (small 3) (both (small 0) (both always (Pair Lt (col 1) (col 3)))))) (two join_op left_scan right_scan))
      ≡ one (Filter (Pair Lt (col 1) (col 3))) (two join_op (one (Filter (both (small 0) always)) left_scan) (one (Filter (small 3)) right_scan))
  -- plain columns and literals take the place of the columns that they give; `-5` and a sum stay above
  pub items : normal (one (Filter (both (both (small 4) (small 5)) (both (small 6) (small 7)))) (one items_op left_scan))
      ≡ one (Filter (both (small 6) (small 7))) (one items_op (one (Filter (both (small 1) (Pair Lt (number 5) (number 7)))) left_scan))
  -- below a Group with a key go conjuncts on it and such without columns; that on an aggregate stays
  pub keyed : normal (one (Filter (both (both (small 4) always) (small 1))) (one (counting (1 ∷ [])) left_scan))
      ≡ one (Filter (small 4)) (one (counting (1 ∷ [])) (one (Filter (both always (small 1))) left_scan))
  -- through a Group without keys nothing goes
  pub keyless : normal (one (Filter always) (one (counting []) left_scan)) ≡ one (Filter always) (one (counting []) left_scan)
  -- nor through a Top
  pub top : normal (one (Filter (small 0)) (one (Top (record { n = 3; order = [] })) left_scan)) ≡ one (Filter (small 0)) (one (Top (record { n = 3; order = [] })) left_scan)
  -- Filters one over the other become one, the lower one's conjuncts first
  pub joined : normal (one (Filter (both (small 0) (small 1))) (one (Filter (both always (both (small 1) (small 0)))) left_scan))
      ≡ one (Filter (both (both (both (both always (small 1)) (small 0)) (small 0)) (small 1))) left_scan
  -- what comes down stands after what was there
  pub later : normal (one (Filter (both (small 0) (small 2))) (two join_op (one (Filter (small 1)) left_scan) (one (Filter (small 3)) right_scan)))
      ≡ two join_op (one (Filter (both (small 1) (small 0))) left_scan) (one (Filter (both (small 3) (small 2))) right_scan)
