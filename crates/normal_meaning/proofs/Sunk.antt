-- A conjunct that sinks keeps the bags, the columns and what is formed.
use Rattle.std.proofs.Common.{◌≡◌, ℕ, Bool, true, false, cond, List, [], ◌∷◌, ◌++◌, refl, sym, ap, ap₂, ◌∙◌, subst}
use denote.Hole.Carrier.{hidden}
use Rattle.col_sets.specs.Sets.{has}
use Rattle.col_sets.specs.Columns.{within_has}
use Rattle.col_sets.specs.Tests.{both}
use Rattle.script_trees.specs.declared.op.PairOp.TheVariants.{And}
use Rattle.scope_expr.specs.declared.expr.Expr.{Expr, end_of-Expr, more_of-Expr}
use Rattle.scope_expr.specs.declared.expr.Expr.TheBlock.{shape-the_row-Expr-0, hidden-the_row-Expr-0}
use Rattle.scope_expr.specs.declared.expr.Expr.TheVariants.{Pair, Pair'}
use Rattle.logical_trees.specs.declared.logic_op.LogicOp.{LogicOp}
use Rattle.logical_trees.specs.declared.logic_op.LogicOp.TheVariants.{Filter, Project, Join, Group}
use Rattle.logical_trees.specs.Tree.{Expression, leaf, one, two, one_columns, two_columns, columns_of}
use Rattle.logical_trees.specs.Meaning.{SameBags}
use Rattle.logical_trees.specs.Formed.{IsFormed, IsOneFormed, IsTwoFormed, IsOver}
use Rattle.logical_trees.specs.ColumnLemmas.{columns_set}
use Rattle.normal_meaning.specs.Sinking.{conjuncts, is_keyed, passes, below, goes_to, can_sink, sink, sink_all, normal}
use Rattle.normal_meaning.proofs.Values.{over_both, over_below}
use Rattle.normal_meaning.proofs.Steps.{filters_same, filters_joined, passed_same, left_same, right_same}
use Rattle.logical_trees.specs.SameLemmas.{same_itself, same_then, same_below, same_beside}
use Rattle.scope_expr.specs.Moved.{each_column}
use Rattle.scope_expr.specs.ValueLemmas.{each_gives, each_passes}

-- ---- columns

pub columns_sink : (t : Expression) (e : Expr) → columns_of (sink t e) ≡ columns_of t
columns_sink (leaf op) e = refl
columns_sink (one (Filter g) t) e = go (can_sink t e) (columns_sink t e)
  where
    go : (b : Bool) → columns_of (sink t e) ≡ columns_of t → columns_of (cond b (one (Filter g) (sink t e)) (one (Filter (Pair And g e)) t)) ≡ columns_of t
    go true h = h
    go false h = refl
columns_sink (one op t) e = go (passes op e) (columns_sink t (below op e))
  where
    go : (b : Bool) → columns_of (sink t (below op e)) ≡ columns_of t → columns_of (cond b (one op (sink t (below op e))) (one (Filter e) (one op t))) ≡ one_columns op (columns_of t)
    go true h = ap (one_columns op) h
    go false h = refl
columns_sink (two op t u) e = go (goes_to op (columns_of t) e) (goes_to op (columns_of u) e) (columns_sink t e) (columns_sink u e)
  where
    go : (b c : Bool) → columns_of (sink t e) ≡ columns_of t → columns_of (sink u e) ≡ columns_of u
        → columns_of (cond b (two op (sink t e) u) (cond c (two op t (sink u e)) (one (Filter e) (two op t u)))) ≡ two_columns op (columns_of t) (columns_of u)
    go true c h k = ap (λ cols. two_columns op cols (columns_of u)) h
    go false true h k = ap (two_columns op (columns_of t)) k
    go false false h k = refl

pub columns_sink_all : (t : Expression) (es : List Expr) → columns_of (sink_all t es) ≡ columns_of t
columns_sink_all t [] = refl
columns_sink_all t (e ∷ es) = columns_sink_all (sink t e) es ∙ columns_sink t e

pub columns_normal : (t : Expression) → columns_of (normal t) ≡ columns_of t
columns_normal (leaf op) = refl
columns_normal (one (Filter e) t) = columns_sink_all (normal t) (conjuncts e) ∙ columns_normal t
columns_normal (one op t) = ap (one_columns op) (columns_normal t)
columns_normal (two op t u) = ap₂ (two_columns op) (columns_normal t) (columns_normal u)

-- ---- what is formed

-- what passes a node names columns below it alone
over_passed : (op : LogicOp) (cols : List ℕ) (e : Expr) → IsOneFormed cols op → passes op e ≡ true → IsOver cols (below op e)
over_passed (Project items new) cols e f h = over_below items new cols e f.2 h
over_passed (Group args) cols e f h =
    let parts = both (is_keyed args.keys) (each_column (has args.keys) e) h in
    each_gives (λ c k. has args.keys c ≡ true) (λ c k. has cols c ≡ true) (λ c k. within_has args.keys cols f.1 c) e (each_passes (has args.keys) e parts.1)
over_passed op cols e f h = absurd (cc)

goes_over : (op : LogicOp) (cols : List ℕ) (e : Expr) → goes_to op cols e ≡ true → IsOver cols e
goes_over (Join on) cols e h = each_passes (has cols) e h
goes_over op cols e h = absurd (cc)

pub formed_sink : (results : List (List ℕ)) (t : Expression) (e : Expr) → IsFormed results t → IsOver (columns_of t) e → IsFormed results (sink t e)
formed_sink results (leaf op) e f o = (f, o)
formed_sink results (one (Filter g) t) e f o = go (can_sink t e) (formed_sink results t e f.0 o)
  where
    go : (b : Bool) → IsFormed results (sink t e) → IsFormed results (cond b (one (Filter g) (sink t e)) (one (Filter (Pair And g e)) t))
    go true h = (h, subst (λ (cols : List ℕ). IsOver cols g) (sym (columns_sink t e)) f.1)
    go false h = (f.0, over_both (columns_of t) g e f.1 o)
formed_sink results (one op t) e f o = go (passes op e) refl (formed_sink results t (below op e) f.0)
  where
    go : (b : Bool) → passes op e ≡ b → (IsOver (columns_of t) (below op e) → IsFormed results (sink t (below op e)))
        → IsFormed results (cond b (one op (sink t (below op e))) (one (Filter e) (one op t)))
    go true k h = (h (over_passed op (columns_of t) e f.1 k), subst (λ (cols : List ℕ). IsOneFormed cols op) (sym (columns_sink t (below op e))) f.1)
    go false k h = (f, o)
formed_sink results (two op t u) e f o = go (goes_to op (columns_of t) e) refl (goes_to op (columns_of u) e) refl (formed_sink results t e f.0) (formed_sink results u e f.1)
  where
    go : (b : Bool) → goes_to op (columns_of t) e ≡ b → (c : Bool) → goes_to op (columns_of u) e ≡ c → (IsOver (columns_of t) e → IsFormed results (sink t e)) → (IsOver (columns_of u) e → IsFormed results (sink u e))
        → IsFormed results (cond b (two op (sink t e) u) (cond c (two op t (sink u e)) (one (Filter e) (two op t u))))
    go true k c l h m = (h (goes_over op (columns_of t) e k), f.1, subst (λ (cols : List ℕ). IsTwoFormed cols (columns_of u) op) (sym (columns_sink t e)) f.2)
    go false k true l h m = (f.0, m (goes_over op (columns_of u) e l), subst (λ (cols : List ℕ). IsTwoFormed (columns_of t) cols op) (sym (columns_sink u e)) f.2)
    go false k false l h m = (f, o)

-- each expression is over the columns
abbrev pub AreOver : List ℕ → List Expr → Type 0
AreOver cols [] = Unit {0}
AreOver cols (e ∷ es) = IsOver cols e × AreOver cols es

over_append : (cols : List ℕ) (es fs : List Expr) → AreOver cols es → AreOver cols fs → AreOver cols (es ++ fs)
over_append cols [] fs h k = k
over_append cols (e ∷ es) fs h k = (h.0, over_append cols es fs h.1 k)

-- the conjuncts of what is over the columns are
pub over_conjuncts : (cols : List ℕ) (e : Expr) → IsOver cols e → AreOver cols (conjuncts e)
over_conjuncts cols (Pair' And s (more_of-Expr a end_of-Expr) t (more_of-Expr b end_of-Expr)) h = over_append cols (conjuncts a) (conjuncts b) (over_conjuncts cols a h.0) (over_conjuncts cols b h.1)
over_conjuncts cols e h = (h, tt)

pub formed_sink_all : (results : List (List ℕ)) (t : Expression) (es : List Expr) → IsFormed results t → AreOver (columns_of t) es → IsFormed results (sink_all t es)
formed_sink_all results t [] f o = f
formed_sink_all results t (e ∷ es) f o =
    formed_sink_all results (sink t e) es (formed_sink results t e f o.0) (subst (λ (cols : List ℕ). AreOver cols es) (sym (columns_sink t e)) o.1)

pub formed_normal : (results : List (List ℕ)) (t : Expression) → IsFormed results t → IsFormed results (normal t)
formed_normal results (leaf op) f = f
formed_normal results (one (Filter e) t) f =
    formed_sink_all results (normal t) (conjuncts e) (formed_normal results t f.0)
    (subst (λ (cols : List ℕ). AreOver cols (conjuncts e)) (sym (columns_normal t)) (over_conjuncts (columns_of t) e f.1))
formed_normal results (one op t) f = (formed_normal results t f.0, subst (λ (cols : List ℕ). IsOneFormed cols op) (sym (columns_normal t)) f.1)
formed_normal results (two op t u) f = (
  formed_normal results t f.0,
  formed_normal results u f.1,
  subst (λ (cols : List ℕ). IsTwoFormed cols (columns_of (normal u)) op) (sym (columns_normal t)) (subst (λ (cols : List ℕ). IsTwoFormed (columns_of t) cols op) (sym (columns_normal u)) f.2),
)

-- ---- the same bags

pub sink_same : (results : List (List ℕ)) (t : Expression) (e : Expr) → IsFormed results t → SameBags (one (Filter e) t) (sink t e)
sink_same results (leaf op) e f = same_itself _
sink_same results (one (Filter g) t) e f = go (can_sink t e) (sink_same results t e f.0)
  where
    go : (b : Bool) → SameBags (one (Filter e) t) (sink t e) → SameBags (one (Filter e) (one (Filter g) t)) (cond b (one (Filter g) (sink t e)) (one (Filter (Pair And g e)) t))
    go true h = same_then _ _ _ (filters_same g e t) (same_below (Filter g) _ _ h)
    go false h = filters_joined g e t
sink_same results (one op t) e f = go (passes op e) refl (sink_same results t (below op e) f.0)
  where
    go : (b : Bool) → passes op e ≡ b → SameBags (one (Filter (below op e)) t) (sink t (below op e)) → SameBags (one (Filter e) (one op t)) (cond b (one op (sink t (below op e))) (one (Filter e) (one op t)))
    go true k h = same_then _ _ _ (passed_same op t e f.1 k) (same_below op _ _ h)
    go false k h = same_itself _
sink_same results (two (Join on) t u) e f =
    go (goes_to (Join on) (columns_of t) e) refl (goes_to (Join on) (columns_of u) e) refl (sink_same results t e f.0) (sink_same results u e f.1)
  where
    go : (b : Bool) → goes_to (Join on) (columns_of t) e ≡ b → (c : Bool) → goes_to (Join on) (columns_of u) e ≡ c → SameBags (one (Filter e) t) (sink t e) → SameBags (one (Filter e) u) (sink u e)
        → SameBags (one (Filter e) (two (Join on) t u)) (cond b (two (Join on) (sink t e) u) (cond c (two (Join on) t (sink u e)) (one (Filter e) (two (Join on) t u))))
    go true k c l h m = same_then _ _ _ (left_same on t u e (columns_set results t f.0) (columns_set results u f.1) f.2 k) (same_beside (Join on) _ _ _ _ h (same_itself u))
    go false k true l h m = same_then _ _ _ (right_same on t u e (columns_set results t f.0) (columns_set results u f.1) f.2 l) (same_beside (Join on) _ _ _ _ (same_itself t) m)
    go false k false l h m = same_itself _
sink_same results (two op t u) e f = same_itself _

-- ---- a whole Filter

pub sink_all_append : (t : Expression) (es fs : List Expr) → sink_all t (es ++ fs) ≡ sink_all (sink_all t es) fs
sink_all_append t [] fs = refl
sink_all_append t (e ∷ es) fs = sink_all_append (sink t e) es fs

same_back : (t u : Expression) → SameBags t u → SameBags u t
same_back t u h = record { columns = sym h.columns; there = h.back; back = h.there }

-- a pair as it is written
pub pair_is : (a b : Expr) (s t : _) → Pair' And s (more_of-Expr a end_of-Expr) t (more_of-Expr b end_of-Expr) ≡ Pair And a b
unfolding shape-the_row-Expr-0 hidden-the_row-Expr-0 hidden
pair_is a b s t = refl

-- a Filter's conjuncts one after the other
pub sink_all_same : (results : List (List ℕ)) (e : Expr) (t : Expression) → IsFormed results t → IsOver (columns_of t) e → SameBags (one (Filter e) t) (sink_all t (conjuncts e))
sink_all_same results (Pair' And s (more_of-Expr a end_of-Expr) v (more_of-Expr b end_of-Expr)) t f o =
    let first = sink_all_same results a t f o.0 in
    let formed : IsFormed results (sink_all t (conjuncts a)) = formed_sink_all results t (conjuncts a) f (over_conjuncts (columns_of t) a o.0) in
    let rest = sink_all_same results b (sink_all t (conjuncts a)) formed (subst (λ (cols : List ℕ). IsOver cols b) (sym (columns_sink_all t (conjuncts a))) o.1) in
    subst (λ (e : Expr). SameBags (one (Filter e) t) (sink_all t (conjuncts a ++ conjuncts b))) (sym (pair_is a b s v))
    (subst (λ (u : Expression). SameBags (one (Filter (Pair And a b)) t) u) (sym (sink_all_append t (conjuncts a) (conjuncts b)))
    (same_then _ _ _ (same_back _ _ (filters_joined a b t)) (same_then _ _ _ (same_below (Filter b) _ _ first) rest)))
sink_all_same results e t f o = sink_same results t e f

pub normal_same : (results : List (List ℕ)) (t : Expression) → IsFormed results t → SameBags t (normal t)
normal_same results (leaf op) f = same_itself _
normal_same results (one (Filter e) t) f =
    same_then _ _ _ (same_below (Filter e) _ _ (normal_same results t f.0))
    (sink_all_same results e (normal t) (formed_normal results t f.0) (subst (λ (cols : List ℕ). IsOver cols e) (sym (columns_normal t)) f.1))
normal_same results (one op t) f = same_below op _ _ (normal_same results t f.0)
normal_same results (two op t u) f = same_beside op _ _ _ _ (normal_same results t f.0) (normal_same results u f.1)
