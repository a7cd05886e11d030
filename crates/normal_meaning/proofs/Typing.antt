-- Predicates that sink stay typed.
use Rattle.std.proofs.Common.{◌≡◌, ℕ, Bool, true, ◌&&◌, ◌||◌, refl, ap, ap₂, ◌∙◌, ◌⊎◌, inl, inr}
use denote.Hole.Carrier.{hidden}
use Rattle.col_sets.specs.Tests.{both, and_true, either, or_left, or_right}
use Rattle.scope_value.specs.declared.schema.ColType.{ColType}
use Rattle.script_trees.specs.declared.op.PairOp.{PairOp}
use Rattle.script_trees.specs.declared.op.PairOp.TheVariants.{Or, And, Eq, Ne, Lt, Le, Gt, Ge}
use Rattle.scope_expr.specs.declared.expr.Expr.{Expr, end_of-Expr, more_of-Expr}
use Rattle.scope_expr.specs.declared.expr.Expr.TheBlock.{shape-the_row-Expr-0, hidden-the_row-Expr-0}
use Rattle.scope_expr.specs.declared.expr.Expr.TheVariants.{Literal, Col, Neg', Not', Pair'}
use Rattle.scope_expr.specs.Kinds.{EachColumn, is_typed, kind_of, is_null, is_number, is_truth, are_alike, are_comparable, are_operands, takes_number, takes_truth}
use Rattle.scope_expr.specs.Moved.{with_columns}
use Rattle.normal_meaning.specs.Typed.{KeepsPredicate, JoinsPredicates}

-- d may stand where e does: it has its type, and is null where e is
record MayStand (e d : Expr) : Type 0 where
  kind : kind_of d ≡ kind_of e
  null : is_null e ≡ true → is_null d ≡ true

takes : (p : ColType → Bool) (e d : Expr) → MayStand e d → (is_null e || p (kind_of e)) ≡ true → (is_null d || p (kind_of d)) ≡ true
takes p e d m h = go (either _ _ h)
  where
    go : (is_null e ≡ true) ⊎ (p (kind_of e) ≡ true) → (is_null d || p (kind_of d)) ≡ true
    go (inl q) = or_left _ _ (m.null q)
    go (inr q) = or_right _ _ (ap p m.kind ∙ q)

comparable : (a b x y : Expr) → MayStand a x → MayStand b y → are_comparable a b ≡ true → are_comparable x y ≡ true
comparable a b x y m n h = go (either _ _ h)
  where
    inner : (is_null b ≡ true) ⊎ (are_alike (kind_of a) (kind_of b) ≡ true) → are_comparable x y ≡ true
    inner (inl q) = or_right (is_null x) _ (or_left _ _ (n.null q))
    inner (inr q) = or_right (is_null x) _ (or_right (is_null y) _ (ap₂ are_alike m.kind n.kind ∙ q))

    go : (is_null a ≡ true) ⊎ ((is_null b || are_alike (kind_of a) (kind_of b)) ≡ true) → are_comparable x y ≡ true
    go (inl q) = or_left _ _ (m.null q)
    go (inr q) = inner (either (is_null b) (are_alike (kind_of a) (kind_of b)) q)

truths : (a b x y : Expr) → MayStand a x → MayStand b y → (takes_truth a && takes_truth b) ≡ true → (takes_truth x && takes_truth y) ≡ true
truths a b x y m n h = let parts = both (takes_truth a) (takes_truth b) h in and_true _ _ (takes is_truth a x m parts.0) (takes is_truth b y n parts.1)

numbers : (a b x y : Expr) → MayStand a x → MayStand b y → (takes_number a && takes_number b) ≡ true → (takes_number x && takes_number y) ≡ true
numbers a b x y m n h = let parts = both (takes_number a) (takes_number b) h in and_true _ _ (takes is_number a x m parts.0) (takes is_number b y n parts.1)

operands : (op : PairOp) (a b x y : Expr) → MayStand a x → MayStand b y → are_operands op a b ≡ true → are_operands op x y ≡ true
operands Or a b x y m n h = truths a b x y m n h
operands And a b x y m n h = truths a b x y m n h
operands Eq a b x y m n h = comparable a b x y m n h
operands Ne a b x y m n h = comparable a b x y m n h
operands Lt a b x y m n h = comparable a b x y m n h
operands Le a b x y m n h = comparable a b x y m n h
operands Gt a b x y m n h = comparable a b x y m n h
operands Ge a b x y m n h = comparable a b x y m n h
operands op a b x y m n h = numbers a b x y m n h

abbrev IsFitting : (ℕ → ColType → Expr) → ℕ → ColType → Type 0
IsFitting put c k = (is_typed (put c k) ≡ true) × (kind_of (put c k) ≡ k)

stands : (put : ℕ → ColType → Expr) (e : Expr) → EachColumn (IsFitting put) e → MayStand e (with_columns put e)
unfolding shape-the_row-Expr-0 hidden-the_row-Expr-0 hidden
stands put (Literal v) h = record { kind = refl; null = λ q. q }
stands put (Col c k) h = record { kind = h.1; null = λ q. absurd (cc) }
stands put (Neg' s (more_of-Expr a end_of-Expr)) h = record { kind = refl; null = λ q. absurd (cc) }
stands put (Not' s (more_of-Expr a end_of-Expr)) h = record { kind = refl; null = λ q. absurd (cc) }
stands put (Pair' op s (more_of-Expr a end_of-Expr) t (more_of-Expr b end_of-Expr)) h = record { kind = refl; null = λ q. absurd (cc) }

typed_with : (put : ℕ → ColType → Expr) (e : Expr) → is_typed e ≡ true → EachColumn (IsFitting put) e → is_typed (with_columns put e) ≡ true
unfolding shape-the_row-Expr-0 hidden-the_row-Expr-0 hidden
typed_with put (Literal v) h k = h
typed_with put (Col c j) h k = k.0
typed_with put (Neg' s (more_of-Expr a end_of-Expr)) h k =
    let parts = both (is_typed a) (takes_number a) h in and_true _ _ (typed_with put a parts.0 k) (takes is_number a (with_columns put a) (stands put a k) parts.1)
typed_with put (Not' s (more_of-Expr a end_of-Expr)) h k =
    let parts = both (is_typed a) (takes_truth a) h in and_true _ _ (typed_with put a parts.0 k) (takes is_truth a (with_columns put a) (stands put a k) parts.1)
typed_with put (Pair' op s (more_of-Expr a end_of-Expr) t (more_of-Expr b end_of-Expr)) h k =
    let parts = both (is_typed a) (is_typed b && are_operands op a b) h in
    let more = both (is_typed b) (are_operands op a b) parts.1 in
    and_true _ _ (typed_with put a parts.0 k.0)
    (and_true _ _ (typed_with put b more.0 k.1) (operands op a b (with_columns put a) (with_columns put b) (stands put a k.0) (stands put b k.1) more.1))

pub keeps_predicate : KeepsPredicate
keeps_predicate put e h k = (typed_with put e h.0 k, takes is_truth e (with_columns put e) (stands put e k) h.1)

pub joins_predicates : JoinsPredicates
unfolding shape-the_row-Expr-0 hidden-the_row-Expr-0 hidden
joins_predicates f e h k = (and_true _ _ h.0 (and_true _ _ k.0 (and_true _ _ h.1 k.1)), refl)
