-- The definition of sinking by what each function of the crate does, and that each call has less to go through.
use Rattle.std.proofs.Common.{◌≡◌, ◌<◌, ◌+◌, ℕ, Bool, true, false, cond, List, [], ◌∷◌, ◌++◌, length, refl, sym, ap, ap₂, ◌∙◌, arith}
use denote.Hole.Carrier.{hidden}
use Rattle.script_trees.specs.declared.op.PairOp.{PairOp}
use Rattle.script_trees.specs.declared.op.PairOp.TheVariants.{And}
use Rattle.scope_expr.specs.declared.expr.Expr.{Expr, end_of-Expr, more_of-Expr}
use Rattle.scope_expr.specs.declared.expr.Expr.TheBlock.{shape-the_row-Expr-0, hidden-the_row-Expr-0}
use Rattle.scope_expr.specs.declared.expr.Expr.TheVariants.{Literal, Col, Neg', Not', Pair, Pair'}
use Rattle.logical_trees.specs.declared.logic_op.LogicOp.{LogicOp}
use Rattle.logical_trees.specs.declared.logic_op.LogicOp.TheVariants.{Filter}
use Rattle.logical_trees.specs.Tree.{Expression, leaf, one, two, nodes, columns_of}
use Rattle.logical_trees.specs.NumberLemmas.{nodes_one, nodes_two}
use Rattle.normal_meaning.specs.Sinking.{conjuncts, passes, below, goes_to, sink, sink_all, normal}
use Rattle.normal_meaning.proofs.Sunk.{sink_all_append}
use Rattle.normal_form.specs.Steps.{goes_below, stopped, over}

-- ---- sinking, by the node at the top

sink_one : (op : LogicOp) (t : Expression) (e : Expr) → sink (one op t) e ≡ cond (goes_below op t e) (one op (sink t (below op e))) (stopped op t e)
sink_one (Filter f) t e = refl
sink_one op t e = refl

pub sunk_leaf : (x : Expression) (op : LogicOp) (e : Expr) → leaf op ≡ x → one (Filter e) (leaf op) ≡ sink x e
sunk_leaf x op e is = rw (← is) refl

pub sunk_below : (x : Expression) (op : LogicOp) (t : Expression) (e : Expr) → one op t ≡ x → goes_below op t e ≡ true → one op (sink t (below op e)) ≡ sink x e
sunk_below x op t e is goes = rw (← is, sink_one op t e, goes) refl

pub sunk_here : (x : Expression) (op : LogicOp) (t : Expression) (e : Expr) → one op t ≡ x → goes_below op t e ≡ false → stopped op t e ≡ sink x e
sunk_here x op t e is stays = rw (← is, sink_one op t e, stays) refl

pub sunk_left : (x : Expression) (op : LogicOp) (t u : Expression) (e : Expr) → two op t u ≡ x → goes_to op (columns_of t) e ≡ true → two op (sink t e) u ≡ sink x e
sunk_left x op t u e is left = rw (← is, left) refl

pub sunk_right : (x : Expression) (op : LogicOp) (t u : Expression) (e : Expr) → two op t u ≡ x → goes_to op (columns_of t) e ≡ false → goes_to op (columns_of u) e ≡ true
    → two op t (sink u e) ≡ sink x e
sunk_right x op t u e is left right = rw (← is, left, right) refl

pub sunk_over : (x : Expression) (op : LogicOp) (t u : Expression) (e : Expr) → two op t u ≡ x → goes_to op (columns_of t) e ≡ false → goes_to op (columns_of u) e ≡ false
    → one (Filter e) (two op t u) ≡ sink x e
sunk_over x op t u e is left right = rw (← is, left, right) refl

-- ---- conjuncts

conjuncts_and : (a b : Expr) → conjuncts (Pair And a b) ≡ conjuncts a ++ conjuncts b
unfolding shape-the_row-Expr-0 hidden-the_row-Expr-0 hidden
conjuncts_and a b = refl

-- what is no `&&` is its one conjunct
pub sunk_other : (t : Expression) (e : Expr) → ((op : PairOp) (a b : Expr) → e ≡ Pair op a b → ⊥) → sink t e ≡ sink_all t (conjuncts e)
unfolding shape-the_row-Expr-0 hidden-the_row-Expr-0 hidden
sunk_other t (Literal v) h = refl
sunk_other t (Col c k) h = refl
sunk_other t (Neg' s a) h = refl
sunk_other t (Not' s a) h = refl
sunk_other t (Pair' op s (more_of-Expr a end_of-Expr) r (more_of-Expr b end_of-Expr)) h = absurd (h op a b refl)

pub sunk_pair : (t : Expression) (op : PairOp) (a b : Expr) → (op ≡ And → ⊥) → sink t (Pair op a b) ≡ sink_all t (conjuncts (Pair op a b))
unfolding shape-the_row-Expr-0 hidden-the_row-Expr-0 hidden
sunk_pair t And a b h = absurd (h refl)
sunk_pair t op a b h = refl

-- those of the left side, and then those of the right
sunk_both : (t : Expression) (a b : Expr) → sink_all (sink_all t (conjuncts a)) (conjuncts b) ≡ sink_all t (conjuncts (Pair And a b))
sunk_both t a b = sym (sink_all_append t (conjuncts a) (conjuncts b)) ∙ ap (sink_all t) (sym (conjuncts_and a b))

pub both_sunk : (t x y : Expression) (e : Expr) (op : PairOp) (a b a' b' : Expr) → e ≡ Pair op a b → op ≡ And → a' ≡ a → b' ≡ b → x ≡ sink_all t (conjuncts a') → y ≡ sink_all x (conjuncts b')
    → y ≡ sink_all t (conjuncts e)
both_sunk t x y e op a b a' b' is and left right first second =
    second ∙ ap₂ (λ (u : Expression) (f : Expr). sink_all u (conjuncts f)) (first ∙ ap (λ (f : Expr). sink_all t (conjuncts f)) left) right
    ∙ sunk_both t a b ∙ ap (λ (o : PairOp). sink_all t (conjuncts (Pair o a b))) (sym and) ∙ ap (λ (f : Expr). sink_all t (conjuncts f)) (sym is)

-- ---- the normal form, by the node at the top

normal_one : (op : LogicOp) (t : Expression) → normal (one op t) ≡ over op (normal t)
normal_one (Filter e) t = refl
normal_one op t = refl

pub normal_below : (x : Expression) (op : LogicOp) (t : Expression) → one op t ≡ x → over op (normal t) ≡ normal x
normal_below x op t is = sym (normal_one op t) ∙ ap normal is

pub normal_beside : (x : Expression) (op : LogicOp) (t u : Expression) → two op t u ≡ x → two op (normal t) (normal u) ≡ normal x
normal_beside x op t u is = ap normal is

-- ---- fewer nodes

pub fewer_below : (x : Expression) (op : LogicOp) (t : Expression) → one op t ≡ x → length (nodes t) < length (nodes x)
fewer_below x op t is = let e = nodes_one op t in let f = ap (λ (y : Expression). length (nodes y)) is in omega (arith, e, f)

pub fewer_left : (x : Expression) (op : LogicOp) (t u : Expression) → two op t u ≡ x → length (nodes t) < length (nodes x)
fewer_left x op t u is = let e = nodes_two op t u in let f = ap (λ (y : Expression). length (nodes y)) is in omega (arith, e, f)

pub fewer_right : (x : Expression) (op : LogicOp) (t u : Expression) → two op t u ≡ x → length (nodes u) < length (nodes x)
fewer_right x op t u is = let e = nodes_two op t u in let f = ap (λ (y : Expression). length (nodes y)) is in omega (arith, e, f)
