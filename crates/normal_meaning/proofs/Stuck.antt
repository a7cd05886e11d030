-- The normal form is in normal form, and what is in normal form stays.
use Rattle.std.proofs.Common.{◌≡◌, ℕ, Bool, true, false, cond, ◌||◌, List, [], ◌∷◌, ◌++◌, refl, sym, ap, ap₂, ◌∙◌, subst, Option, Some, None, slice_get}
use Rattle.std.specs.Option.{option_map_or}
use denote.Hole.Carrier.{hidden}
use Rattle.col_sets.specs.Sets.{rank}
use Rattle.script_trees.specs.declared.op.PairOp.TheVariants.{And}
use Rattle.scope_expr.specs.declared.expr.Expr.{Expr, end_of-Expr, more_of-Expr}
use Rattle.scope_expr.specs.declared.expr.Expr.TheBlock.{shape-the_row-Expr-0, hidden-the_row-Expr-0}
use Rattle.scope_expr.specs.declared.expr.Expr.TheVariants.{Literal, Col, Neg', Not', Pair, Pair'}
use Rattle.logical_trees.specs.declared.logic_op.LogicOp.{LogicOp}
use Rattle.logical_trees.specs.declared.logic_op.LogicOp.TheVariants.{Filter, Project, Group}
use Rattle.logical_trees.specs.Tree.{Expression, leaf, one, two, columns_of}
use Rattle.normal_meaning.specs.Sinking.{conjuncts, is_simple, has_simple, item_for, passes, below, goes_to, can_sink, sink, sink_all, normal}
use Rattle.scope_expr.specs.Moved.{each_column, with_columns}
use Rattle.normal_meaning.specs.Normal.{is_conjunct, IsChain, is_filter, AreStuck, IsNormal}
use Rattle.normal_meaning.proofs.Sunk.{columns_sink, sink_all_append, pair_is}

-- ---- conjuncts

-- what is no `&&` is its one conjunct
pub single : (e : Expr) → is_conjunct e ≡ true → conjuncts e ≡ e ∷ []
single (Pair' And s a t b) h = absurd (cc)
single e h = refl

chain_one : (e : Expr) → is_conjunct e ≡ true → IsChain e
chain_one (Pair' And s a t b) h = absurd (cc)
chain_one e h = tt

conjuncts_and : (f e : Expr) → conjuncts (Pair And f e) ≡ conjuncts f ++ conjuncts e
unfolding shape-the_row-Expr-0 hidden-the_row-Expr-0 hidden
conjuncts_and f e = refl

chain_and : (f e : Expr) → IsChain f → is_conjunct e ≡ true → IsChain (Pair And f e)
unfolding shape-the_row-Expr-0 hidden-the_row-Expr-0 hidden
chain_and f e h k = (h, k)

abbrev AreConjuncts : List Expr → Type 0
AreConjuncts [] = Unit {0}
AreConjuncts (e ∷ es) = (is_conjunct e ≡ true) × AreConjuncts es

conjuncts_append : (es fs : List Expr) → AreConjuncts es → AreConjuncts fs → AreConjuncts (es ++ fs)
conjuncts_append [] fs h k = k
conjuncts_append (e ∷ es) fs h k = (h.0, conjuncts_append es fs h.1 k)

conjuncts_are : (e : Expr) → AreConjuncts (conjuncts e)
conjuncts_are (Pair' And s (more_of-Expr a end_of-Expr) t (more_of-Expr b end_of-Expr)) = conjuncts_append (conjuncts a) (conjuncts b) (conjuncts_are a) (conjuncts_are b)
conjuncts_are e = (refl, tt)

-- a conjunct with items in place of columns is one
conjunct_with : (items : List Expr) (new : List ℕ) (e : Expr) → is_conjunct e ≡ true → each_column (has_simple items new) e ≡ true → is_conjunct (with_columns (item_for items new) e) ≡ true
unfolding shape-the_row-Expr-0 hidden-the_row-Expr-0 hidden
conjunct_with items new (Literal v) h k = refl
conjunct_with items new (Col c j) h k = go (slice_get items (rank new c)) k
  where
    simple : (x : Expr) → is_simple x ≡ true → is_conjunct x ≡ true
    simple (Literal v) q = refl
    simple (Col d i) q = refl
    simple x q = absurd (cc)

    go : (o : Option Expr) → option_map_or is_simple o false ≡ true → is_conjunct (option_map_or (λ x. x) o (Col c j)) ≡ true
    go None q = absurd (cc)
    go (Some x) q = simple x q
conjunct_with items new (Neg' s (more_of-Expr a end_of-Expr)) h k = refl
conjunct_with items new (Not' s (more_of-Expr a end_of-Expr)) h k = refl
conjunct_with items new (Pair' And s (more_of-Expr a end_of-Expr) t (more_of-Expr b end_of-Expr)) h k = absurd (cc)
conjunct_with items new (Pair' op s (more_of-Expr a end_of-Expr) t (more_of-Expr b end_of-Expr)) h k = refl

conjunct_below : (op : LogicOp) (e : Expr) → is_conjunct e ≡ true → passes op e ≡ true → is_conjunct (below op e) ≡ true
conjunct_below (Project items new) e h k = conjunct_with items new e h k
conjunct_below op e h k = h

-- ---- what can sink

-- where a conjunct sinks the top node stays, and so does what can sink
module _ (e : Expr) where
  not_filter : (t : Expression) → can_sink t e ≡ true → is_filter (sink t e) ≡ false
  not_filter (leaf op) h = absurd (cc)
  not_filter (one (Project items new) t) h = simp h refl
  not_filter (one (Group args) t) h = simp h refl
  not_filter (one op t) h = absurd (cc)
  not_filter (two op t u) h = go (goes_to op (columns_of t) e) (goes_to op (columns_of u) e) h
    where
      go : (b c : Bool) → (b || c) ≡ true → is_filter (cond b (two op (sink t e) u) (cond c (two op t (sink u e)) (one (Filter e) (two op t u)))) ≡ false
      go true c k = refl
      go false true k = refl
      go false false k = absurd (cc)

  stays : (t : Expression) → can_sink t e ≡ true → (g : Expr) → can_sink (sink t e) g ≡ can_sink t g
  stays (leaf op) h g = absurd (cc)
  stays (one (Project items new) t) h g = simp h refl
  stays (one (Group args) t) h g = simp h refl
  stays (one op t) h g = absurd (cc)
  stays (two op t u) h g = go (goes_to op (columns_of t) e) (goes_to op (columns_of u) e) h
    where
      go : (b c : Bool) → (b || c) ≡ true
          → can_sink (cond b (two op (sink t e) u) (cond c (two op t (sink u e)) (one (Filter e) (two op t u)))) g ≡ (goes_to op (columns_of t) g || goes_to op (columns_of u) g)
      go true c k = ap (λ cols. goes_to op cols g || goes_to op (columns_of u) g) (columns_sink t e)
      go false true k = ap (λ cols. goes_to op (columns_of t) g || goes_to op cols g) (columns_sink u e)
      go false false k = absurd (cc)

  stay_stuck : (t : Expression) → can_sink t e ≡ true → (es : List Expr) → AreStuck t es → AreStuck (sink t e) es
  stay_stuck t h [] s = tt
  stay_stuck t h (g ∷ es) s = (stays t h g ∙ s.0, stay_stuck t h es s.1)

stuck_append : (t : Expression) (es fs : List Expr) → AreStuck t es → AreStuck t fs → AreStuck t (es ++ fs)
stuck_append t [] fs h k = k
stuck_append t (e ∷ es) fs h k = (h.0, stuck_append t es fs h.1 k)

stuck_one : (t : Expression) (e : Expr) → is_conjunct e ≡ true → can_sink t e ≡ false → AreStuck t (conjuncts e)
stuck_one t e h k = subst (AreStuck t) (sym (single e h)) (k, tt)

-- ---- in normal form

-- over what is no Filter
over_normal : (t : Expression) (e : Expr) → IsNormal t → is_filter t ≡ false → can_sink t e ≡ false → is_conjunct e ≡ true → IsNormal (one (Filter e) t)
over_normal t e n f k c = (n, f, stuck_one t e c k, chain_one e c)

pub sink_normal : (t : Expression) (e : Expr) → IsNormal t → is_conjunct e ≡ true → IsNormal (sink t e)
sink_normal (leaf op) e n c = over_normal (leaf op) e tt refl refl c
sink_normal (one (Filter g) t) e n c = go (can_sink t e) refl (sink_normal t e n.0 c)
  where
    go : (b : Bool) → can_sink t e ≡ b → IsNormal (sink t e) → IsNormal (cond b (one (Filter g) (sink t e)) (one (Filter (Pair And g e)) t))
    go true k h = (h, not_filter e t k, stay_stuck e t k (conjuncts g) n.2, n.3)
    go false k h =
        (n.0, n.1, subst (AreStuck t) (sym (conjuncts_and g e)) (stuck_append t (conjuncts g) (conjuncts e) n.2 (stuck_one t e c k)), chain_and g e n.3 c)
sink_normal (one (Project items new) t) e n c = go (passes (Project items new) e) refl (sink_normal t (below (Project items new) e) n)
  where
    go : (b : Bool) → passes (Project items new) e ≡ b → (is_conjunct (below (Project items new) e) ≡ true → IsNormal (sink t (below (Project items new) e)))
        → IsNormal (cond b (one (Project items new) (sink t (below (Project items new) e))) (one (Filter e) (one (Project items new) t)))
    go true k h = h (conjunct_below (Project items new) e c k)
    go false k h = over_normal (one (Project items new) t) e n refl k c
sink_normal (one (Group args) t) e n c = go (passes (Group args) e) refl (sink_normal t e n c)
  where
    go : (b : Bool) → passes (Group args) e ≡ b → IsNormal (sink t e) → IsNormal (cond b (one (Group args) (sink t e)) (one (Filter e) (one (Group args) t)))
    go true k h = h
    go false k h = over_normal (one (Group args) t) e n refl k c
sink_normal (one op t) e n c = over_normal (one op t) e n refl refl c
sink_normal (two op t u) e n c = go (goes_to op (columns_of t) e) refl (goes_to op (columns_of u) e) refl (sink_normal t e n.0 c) (sink_normal u e n.1 c)
  where
    go : (b : Bool) → goes_to op (columns_of t) e ≡ b → (d : Bool) → goes_to op (columns_of u) e ≡ d → IsNormal (sink t e) → IsNormal (sink u e)
        → IsNormal (cond b (two op (sink t e) u) (cond d (two op t (sink u e)) (one (Filter e) (two op t u))))
    go true k d l h m = (h, n.1)
    go false k true l h m = (n.0, m)
    go false k false l h m = over_normal (two op t u) e n refl (simp (k, l) refl) c

sink_all_normal : (t : Expression) (es : List Expr) → IsNormal t → AreConjuncts es → IsNormal (sink_all t es)
sink_all_normal t [] n c = n
sink_all_normal t (e ∷ es) n c = sink_all_normal (sink t e) es (sink_normal t e n c.0) c.1

pub normal_is : (t : Expression) → IsNormal (normal t)
normal_is (leaf op) = tt
normal_is (one (Filter e) t) = sink_all_normal (normal t) (conjuncts e) (normal_is t) (conjuncts_are e)
normal_is (one op t) = normal_is t
normal_is (two op t u) = (normal_is t, normal_is u)

-- ---- what is in normal form stays

stuck_left : (t : Expression) (es fs : List Expr) → AreStuck t (es ++ fs) → AreStuck t es
stuck_left t [] fs h = tt
stuck_left t (e ∷ es) fs h = (h.0, stuck_left t es fs h.1)

stuck_right : (t : Expression) (es fs : List Expr) → AreStuck t (es ++ fs) → AreStuck t fs
stuck_right t [] fs h = h
stuck_right t (e ∷ es) fs h = stuck_right t es fs h.1

-- what can't sink ends on top
sunk_over : (t : Expression) (e : Expr) → is_filter t ≡ false → can_sink t e ≡ false → sink t e ≡ one (Filter e) t
sunk_over (leaf op) e f k = refl
sunk_over (one (Filter g) t) e f k = absurd (cc)
sunk_over (one (Project items new) t) e f k = simp k refl
sunk_over (one (Group args) t) e f k = simp k refl
sunk_over (one op t) e f k = refl
sunk_over (two op t u) e f k = go (goes_to op (columns_of t) e) (goes_to op (columns_of u) e) k
  where
    go : (b c : Bool) → (b || c) ≡ false → cond b (two op (sink t e) u) (cond c (two op t (sink u e)) (one (Filter e) (two op t u))) ≡ one (Filter e) (two op t u)
    go true c h = absurd (cc)
    go false true h = absurd (cc)
    go false false h = refl

gathered : (e : Expr) (t : Expression) → is_filter t ≡ false → AreStuck t (conjuncts e) → IsChain e → sink_all t (conjuncts e) ≡ one (Filter e) t
gathered (Pair' And s (more_of-Expr a end_of-Expr) v (more_of-Expr b end_of-Expr)) t f k c =
    sink_all_append t (conjuncts a) (conjuncts b)
    ∙ ap₂ sink_all (gathered a t f (stuck_left t (conjuncts a) (conjuncts b) k) c.0) (single b c.1)
    ∙ last (can_sink t b) (subst (AreStuck t) (single b c.1) (stuck_right t (conjuncts a) (conjuncts b) k)).0
    ∙ ap (λ e. one (Filter e) t) (sym (pair_is a b s v))
  where
    last : (d : Bool) → d ≡ false → cond d (one (Filter a) (sink t b)) (one (Filter (Pair And a b)) t) ≡ one (Filter (Pair And a b)) t
    last true h = absurd (cc)
    last false h = refl
gathered e t f k c = sunk_over t e f k.0

pub normal_stays : (t : Expression) → IsNormal t → normal t ≡ t
normal_stays (leaf op) n = refl
normal_stays (one (Filter e) t) n = ap (λ u. sink_all u (conjuncts e)) (normal_stays t n.0) ∙ gathered e t n.1 n.2 n.3
normal_stays (one op t) n = ap (one op) (normal_stays t n)
normal_stays (two op t u) n = ap₂ (two op) (normal_stays t n.0) (normal_stays u n.1)
