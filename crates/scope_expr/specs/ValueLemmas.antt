-- What an expression is worth over other columns, and on other rows.
use Rattle.std.proofs.Common.{◌≡◌, ℕ, Bool, true, ◌&&◌, not, List, refl, ap, ap₂, ◌∙◌}
use denote.Hole.Carrier.{hidden}
use Rattle.scope_value.specs.declared.value.Value.{Value}
use Rattle.scope_value.specs.declared.value.Value.TheVariants.{Bool as Truth}
use Rattle.scope_value.specs.Keys.{column}
use Rattle.scope_value.specs.declared.schema.ColType.{ColType}
use Rattle.col_sets.specs.Tests.{both}
use Rattle.script_trees.specs.declared.op.PairOp.{PairOp}
use Rattle.script_trees.specs.declared.op.PairOp.TheVariants.{And}
use Rattle.scope_expr.specs.declared.expr.Expr.{Expr, end_of-Expr, more_of-Expr}
use Rattle.scope_expr.specs.declared.expr.Expr.TheBlock.{shape-the_row-Expr-0, hidden-the_row-Expr-0}
use Rattle.scope_expr.specs.declared.expr.Expr.TheVariants.{Literal, Col, Neg, Neg', Not, Not', Pair, Pair'}
use Rattle.scope_expr.specs.Value.{value, holds, column_value, negated, combined, is_true}
use Rattle.scope_expr.specs.Kinds.{EachColumn}
use Rattle.scope_expr.specs.Moved.{each_column, with_columns, moved, HasRanks}

-- ---- by the constructors that the code uses

pub value_neg : (a : Expr) (cols : List ℕ) (row : List Value) → value (Neg a) cols row ≡ negated (value a cols row)
unfolding shape-the_row-Expr-0 hidden-the_row-Expr-0 hidden
value_neg a cols row = refl

pub value_not : (a : Expr) (cols : List ℕ) (row : List Value) → value (Not a) cols row ≡ Truth (not (is_true (value a cols row)))
unfolding shape-the_row-Expr-0 hidden-the_row-Expr-0 hidden
value_not a cols row = refl

pub value_pair : (op : PairOp) (a b : Expr) (cols : List ℕ) (row : List Value) → value (Pair op a b) cols row ≡ combined op (value a cols row) (value b cols row)
unfolding shape-the_row-Expr-0 hidden-the_row-Expr-0 hidden
value_pair op a b cols row = refl

-- `&&` holds where both sides do
pub holds_and : (f e : Expr) (cols : List ℕ) (row : List Value) → holds (Pair And f e) cols row ≡ (holds f cols row && holds e cols row)
holds_and f e cols row = ap is_true (value_pair And f e cols row)

-- ---- each column

-- a test that each column passes is a fact of each column
pub each_passes : (p : ℕ → Bool) (e : Expr) → each_column p e ≡ true → EachColumn (λ c k. p c ≡ true) e
each_passes p (Literal v) h = tt
each_passes p (Col c k) h = h
each_passes p (Neg' s (more_of-Expr a end_of-Expr)) h = each_passes p a h
each_passes p (Not' s (more_of-Expr a end_of-Expr)) h = each_passes p a h
each_passes p (Pair' op s (more_of-Expr a end_of-Expr) t (more_of-Expr b end_of-Expr)) h =
    let parts = both (each_column p a) (each_column p b) h in (each_passes p a parts.0, each_passes p b parts.1)

-- a fact of each column gives another
pub each_gives : (P Q : ℕ → ColType → Type 0) → ((c : ℕ) (k : ColType) → P c k → Q c k) → (e : Expr) → EachColumn P e → EachColumn Q e
each_gives P Q f (Literal v) h = tt
each_gives P Q f (Col c k) h = f c k h
each_gives P Q f (Neg' s (more_of-Expr a end_of-Expr)) h = each_gives P Q f a h
each_gives P Q f (Not' s (more_of-Expr a end_of-Expr)) h = each_gives P Q f a h
each_gives P Q f (Pair' op s (more_of-Expr a end_of-Expr) t (more_of-Expr b end_of-Expr)) h = (each_gives P Q f a h.0, each_gives P Q f b h.1)

-- a fact of all columns is one of each
pub each_all : (P : ℕ → ColType → Type 0) → ((c : ℕ) (k : ColType) → P c k) → (e : Expr) → EachColumn P e
each_all P f (Literal v) = tt
each_all P f (Col c k) = f c k
each_all P f (Neg' s (more_of-Expr a end_of-Expr)) = each_all P f a
each_all P f (Not' s (more_of-Expr a end_of-Expr)) = each_all P f a
each_all P f (Pair' op s (more_of-Expr a end_of-Expr) t (more_of-Expr b end_of-Expr)) = (each_all P f a, each_all P f b)

-- ---- the value

-- the value hangs on the columns' values alone
pub value_same : (cols base : List ℕ) (row other : List Value) (e : Expr) → EachColumn (λ c k. column_value cols c row ≡ column_value base c other) e → value e cols row ≡ value e base other
value_same cols base row other (Literal v) h = refl
value_same cols base row other (Col c k) h = h
value_same cols base row other (Neg' s (more_of-Expr a end_of-Expr)) h = ap negated (value_same cols base row other a h)
value_same cols base row other (Not' s (more_of-Expr a end_of-Expr)) h = ap (λ v. Truth (not (is_true v))) (value_same cols base row other a h)
value_same cols base row other (Pair' op s (more_of-Expr a end_of-Expr) t (more_of-Expr b end_of-Expr)) h =
    ap₂ (combined op) (value_same cols base row other a h.0) (value_same cols base row other b h.1)

-- each column's value is that of what stands in its place
pub value_with : (put : ℕ → ColType → Expr) (cols base : List ℕ) (row below : List Value) (e : Expr)
    → EachColumn (λ c k. value (put c k) cols row ≡ column_value base c below) e → value (with_columns put e) cols row ≡ value e base below
value_with put cols base row below (Literal v) h = refl
value_with put cols base row below (Col c k) h = h
value_with put cols base row below (Neg' s (more_of-Expr a end_of-Expr)) h =
    value_neg (with_columns put a) cols row ∙ ap negated (value_with put cols base row below a h)
value_with put cols base row below (Not' s (more_of-Expr a end_of-Expr)) h =
    value_not (with_columns put a) cols row ∙ ap (λ v. Truth (not (is_true v))) (value_with put cols base row below a h)
value_with put cols base row below (Pair' op s (more_of-Expr a end_of-Expr) t (more_of-Expr b end_of-Expr)) h =
    value_pair op (with_columns put a) (with_columns put b) cols row
    ∙ ap₂ (combined op) (value_with put cols base row below a h.0) (value_with put cols base row below b h.1)

-- renumbered columns with the same ranks have the same values
pub value_moved : (f : ℕ → ℕ) (base cols : List ℕ) → HasRanks f base cols → (e : Expr) (row : List Value) → value (moved f e) cols row ≡ value e base row
value_moved f base cols h e row =
    value_with (λ c k. Col (f c) k) cols base row row e (each_all (λ c k. value (Col (f c) k) cols row ≡ column_value base c row) (λ c k. ap (λ i. column i row) (h c)) e)
