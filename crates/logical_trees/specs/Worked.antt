-- The expressions of examples and of tests.
use Rattle.std.specs.Prelude.{ℕ, [], ◌∷◌, None}
use Rattle.script_trees.specs.declared.agg.AggKind.TheVariants.{Count}
use Rattle.logical_trees.specs.declared.args.GroupArgs.{GroupArgs}
use Rattle.logical_trees.specs.declared.logic_op.LogicOp.{LogicOp}
use Rattle.logical_trees.specs.declared.logic_op.LogicOp.TheVariants.{Scan, Join}
use Rattle.logical_trees.specs.Tree.{Expression, leaf, two}

-- COUNT(*) by column 1, as column 4
abbrev pub counting : GroupArgs
counting = record { written = None; keys = 1 ∷ []; aggs = record { kind = Count; arg = None; id = 4 } ∷ [] }

-- a Join by one pair of columns
abbrev pub on_pair : ℕ → ℕ → LogicOp
on_pair a b = Join (record { items = (a, b) ∷ [] })

-- rows of column 0 with those of columns 1 and 2 that agree in 0 and 1
abbrev pub two_joined : Expression
two_joined = two (on_pair 0 1) (leaf (Scan 0 (0 ∷ []))) (leaf (Scan 1 (1 ∷ 2 ∷ [])))

-- these with rows of column 3 that agree in 1 and 3
abbrev pub three_joined : Expression
three_joined = two (on_pair 1 3) two_joined (leaf (Scan 2 (3 ∷ [])))
