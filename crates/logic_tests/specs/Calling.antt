-- Which user operators the expressions of the tests call.
use Rattle.std.specs.Prelude.{◌<◌, length}
use Rattle.user_ops.specs.Told.{Operators}
use Rattle.logical_trees.specs.declared.logic_op.LogicOp.{LogicOp}
use Rattle.logical_trees.specs.Tree.{Expression}
use Rattle.plain_meaning.specs.Plain.{IsThere, AreThere}

-- there are a processor, a reducer and a combiner
abbrev pub HasEach : Operators → Type 0
HasEach ops = (0 < length ops.processors) × (0 < length ops.reducers) × (0 < length ops.combiners)

-- the node calls no user operator, or the first of its kind
abbrev pub IsCalledFirst : LogicOp → Type 0
IsCalledFirst op = (ops : Operators) → HasEach ops → IsThere ops op

-- all nodes do so
abbrev pub AreCalledFirst : Expression → Type 0
AreCalledFirst t = (ops : Operators) → HasEach ops → AreThere ops t
