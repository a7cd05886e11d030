-- A node taken apart, and the definition of sinking cut into what each function of the crate does.
use Rattle.std.specs.Prelude.{◌≡◌, ◌<◌, Bool, true, false, length}
use Rattle.script_trees.specs.declared.op.PairOp.TheVariants.{And}
use Rattle.scope_expr.specs.declared.expr.Expr.{Expr}
use Rattle.scope_expr.specs.declared.expr.Expr.TheVariants.{Pair}
use Rattle.logical_trees.specs.declared.logic_op.LogicOp.{LogicOp}
use Rattle.logical_trees.specs.declared.logic_op.LogicOp.TheVariants.{Filter}
use Rattle.logical_trees.specs.Tree.{Expression, leaf, one, two, tree_of, nodes, columns_of}
use Rattle.normal_meaning.specs.Sinking.{conjuncts, passes, goes_to, can_sink, sink, sink_all}
use Rattle.normal_form.specs.declared.node.Node.{Node}
use Rattle.normal_form.specs.declared.node.Node.TheVariants.{Leaf, One, Two}
use Rattle.normal_form.specs.declared.sinking.Above.{Above}
use Rattle.normal_form.specs.declared.sinking.Above.TheVariants as above
use Rattle.normal_form.specs.declared.sinking.Side.{Side}
use Rattle.normal_form.specs.declared.sinking.Side.TheVariants.{Left, Right, Neither}
use Rattle.normal_form.specs.declared.sinking.Walk.{Walk}
use Rattle.normal_form.specs.declared.sinking.Walk.TheVariants.{Ended, Down}

-- the expression whose node this is
abbrev pub whole : Node → Expression
whole (Leaf op) = leaf op
whole (One op t) = one op (tree_of t)
whole (Two op t u) = two op (tree_of t) (tree_of u)

-- a conjunct over the node sinks into what is below it
abbrev pub goes_below : LogicOp → Expression → Expr → Bool
goes_below (Filter f) t e = can_sink t e
goes_below op t e = passes op e

-- a conjunct that doesn't: beside those that are there, or over the node
abbrev pub stopped : LogicOp → Expression → Expr → Expression
stopped (Filter f) t e = one (Filter (Pair And f e)) t
stopped op t e = one (Filter e) (one op t)

-- where a conjunct over a node with two children sinks: to the left where it can
abbrev pub IsSide : LogicOp → Expression → Expression → Expr → Side → Type 0
IsSide op t u e Left = goes_to op (columns_of t) e ≡ true
IsSide op t u e Right = (goes_to op (columns_of t) e ≡ false) × (goes_to op (columns_of u) e ≡ true)
IsSide op t u e Neither = (goes_to op (columns_of t) e ≡ false) × (goes_to op (columns_of u) e ≡ false)

-- a node with its child again
abbrev pub under : Above → Expression → Expression
under (above.One op) t = one op t
under (above.Left op u) t = two op t (tree_of u)
under (above.Right op t) u = two op (tree_of t) u

-- what becomes of the expression that the conjunct was over
abbrev pub ending : Walk → Expression
ending (Ended t) = tree_of t
ending (Down up t e) = under up (sink (tree_of t) e)

-- a child has fewer nodes than the expression
abbrev pub LeavesFewer : Expression → Walk → Type 0
LeavesFewer x (Ended t) = Unit {0}
LeavesFewer x (Down up t e) = length (nodes (tree_of t)) < length (nodes x)

-- the node over an expression in normal form: of a Filter the conjuncts sink into it
abbrev pub over : LogicOp → Expression → Expression
over (Filter e) t = sink_all t (conjuncts e)
over op t = one op t
