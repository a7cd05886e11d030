-- The normal form calls the operators that its tree calls.
use Rattle.std.proofs.Common.{Bool, true, false, cond, List, [], ◌∷◌}
use Rattle.script_trees.specs.declared.op.PairOp.TheVariants.{And}
use Rattle.scope_expr.specs.declared.expr.Expr.{Expr}
use Rattle.scope_expr.specs.declared.expr.Expr.TheVariants.{Pair}
use Rattle.user_ops.specs.Told.{Operators}
use Rattle.logical_trees.specs.declared.logic_op.LogicOp.TheVariants.{Filter}
use Rattle.logical_trees.specs.Tree.{Expression, leaf, one, two, columns_of}
use Rattle.normal_meaning.specs.Sinking.{conjuncts, passes, below, goes_to, can_sink, sink, sink_all, normal}
use Rattle.plain_meaning.specs.Plain.{AreThere}
use Rattle.binding_laws.specs.Laws.{KeepsThere}

there_sink : (ops : Operators) (t : Expression) (e : Expr) → AreThere ops t → AreThere ops (sink t e)
there_sink ops (leaf op) e h = (tt, h)
there_sink ops (one (Filter g) t) e h = go (can_sink t e) (there_sink ops t e h.1)
  where
    go : (b : Bool) → AreThere ops (sink t e) → AreThere ops (cond b (one (Filter g) (sink t e)) (one (Filter (Pair And g e)) t))
    go true k = (tt, k)
    go false k = (tt, h.1)
there_sink ops (one op t) e h = go (passes op e) (there_sink ops t (below op e) h.1)
  where
    go : (b : Bool) → AreThere ops (sink t (below op e)) → AreThere ops (cond b (one op (sink t (below op e))) (one (Filter e) (one op t)))
    go true k = (h.0, k)
    go false k = (tt, h)
there_sink ops (two op t u) e h = go (goes_to op (columns_of t) e) (goes_to op (columns_of u) e) (there_sink ops t e h.1) (there_sink ops u e h.2)
  where
    go : (b c : Bool) → AreThere ops (sink t e) → AreThere ops (sink u e)
        → AreThere ops (cond b (two op (sink t e) u) (cond c (two op t (sink u e)) (one (Filter e) (two op t u))))
    go true c j k = (h.0, j, h.2)
    go false true j k = (h.0, h.1, k)
    go false false j k = (tt, h)

there_sink_all : (ops : Operators) (t : Expression) (es : List Expr) → AreThere ops t → AreThere ops (sink_all t es)
there_sink_all ops t [] h = h
there_sink_all ops t (e ∷ es) h = there_sink_all ops (sink t e) es (there_sink ops t e h)

pub keeps_there : KeepsThere
keeps_there ops (leaf op) h = h
keeps_there ops (one (Filter e) t) h = there_sink_all ops (normal t) (conjuncts e) (keeps_there ops t h.1)
keeps_there ops (one op t) h = (h.0, keeps_there ops t h.1)
keeps_there ops (two op t u) h = (h.0, keeps_there ops t h.1, keeps_there ops u h.2)
