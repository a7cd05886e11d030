-- What `typed` answers is typed, and has no columns but the scope's.
use Rattle.std.proofs.Common.{◌≡◌, inl, inr, refl, subst, ℕ, zero, suc, Bool, true, false, not, ◌||◌, List, [], ◌∷◌, length, nat_lt, Option, Some, None, arith}
use Rattle.std.specs.Prelude.{Any, Contains, find, is_some, slice_get, Ok}
use Rattle.std.proofs.lemmas.Bool.Decides.{nat_tests}
use Rattle.scope_value.specs.declared.schema.ColType.{ColType}
use Rattle.scope_expr.specs.declared.expr.Expr.{Expr}
use Rattle.scope_expr.specs.declared.expr.Expr.TheVariants as expr
use Rattle.scope_expr.specs.declared.expr.Expr.TheBlock.{shape-the_row-Expr-0, hidden-the_row-Expr-0}
use denote.Hole.Carrier.{hidden}
use Rattle.script_trees.specs.declared.op.PairOp.{PairOp}
use Rattle.script_trees.specs.declared.raw.RawRef.{RawRef}
use Rattle.script_trees.specs.declared.raw.RawExpr.{RawExpr, end_of-RawExpr, more_of-RawExpr}
use Rattle.script_trees.specs.declared.raw.RawExpr.TheVariants as raw
use Rattle.scope_expr.specs.declared.scope.Entry.{Entry}
use Rattle.scope_expr.specs.declared.scope.Scope.{Scope}
use Rattle.scope_expr.specs.Kinds.{is_typed, EachColumn}
use Rattle.scope_expr.specs.Names.{column_of, is_named, has_unknown, has_ambiguous, entry_column, agg_column, bound, typed}
use Rattle.scope_expr.specs.Laws.{IsInScope}

abbrev IsEntry : List Entry → Entry → Type 0
IsEntry entries entry = Any (λ e. (e.id ≡ entry.id) × (e.kind ≡ entry.kind)) entries

is_entry : (p : Entry → Bool) (entries : List Entry) (entry : Entry) → find p entries ≡ Some entry → IsEntry entries entry
is_entry p [] entry h = absurd (cc)
is_entry p (e ∷ entries) entry h = go (p e) refl (is_entry p entries entry)
  where
    go : (b : Bool) → p e ≡ b → (find p entries ≡ Some entry → IsEntry entries entry) → IsEntry (e ∷ entries) entry
    go true t more = (0, e, omega arith, refl, (cc, cc))
    go false t more = let w = more cc in (suc w.0, w.1, omega arith, w.3, w.4)

is_agg : (aggs : List (ℕ × ColType)) (i : ℕ) (pair : ℕ × ColType) → slice_get aggs i ≡ Some pair → Contains aggs pair
is_agg [] i pair h = absurd (cc)
is_agg (a ∷ aggs) zero pair h = (0, omega arith, cc)
is_agg (a ∷ aggs) (suc i) pair h = let w = is_agg aggs i pair h in (suc w.0, omega arith, w.2)

found_column : (names : Scope) (r : RawRef) (found : Option Entry) → column_of names r ≡ found → not (is_some found) ≡ false → EachColumn (IsInScope names) (entry_column found)
found_column names r None e h = absurd (cc)
found_column names r (Some entry) e h = inl (is_entry (is_named r) names.entries entry e)

-- an aggregate that is listed has a column
listed : {X : Type 0} (xs : List X) (i : ℕ) → not (nat_lt i (length xs)) ≡ false → is_some (slice_get xs i) ≡ true
listed [] i h = absurd (grind (arith, nat_tests))
listed (x ∷ xs) zero h = refl
listed (x ∷ xs) (suc i) h = listed xs i (grind (arith, nat_tests))

listed_column : (names : Scope) (i : ℕ) (found : Option (ℕ × ColType)) → slice_get names.aggs i ≡ found → is_some found ≡ true → EachColumn (IsInScope names) (agg_column found)
listed_column names i None e h = absurd (cc)
listed_column names i (Some pair) e h = inr (is_agg names.aggs i pair e)

neither : (a b : Bool) → (a || b) ≡ false → (a ≡ false) × (b ≡ false)
neither false false h = (refl, refl)
neither false true h = absurd (cc)
neither true b h = absurd (cc)

each_neg : (P : ℕ → ColType → Type 0) (a : Expr) → EachColumn P a → EachColumn P (expr.Neg a)
unfolding shape-the_row-Expr-0 hidden-the_row-Expr-0 hidden
each_neg P a h = h

each_not : (P : ℕ → ColType → Type 0) (a : Expr) → EachColumn P a → EachColumn P (expr.Not a)
unfolding shape-the_row-Expr-0 hidden-the_row-Expr-0 hidden
each_not P a h = h

each_pair : (P : ℕ → ColType → Type 0) (op : PairOp) (a b : Expr) → EachColumn P a → EachColumn P b → EachColumn P (expr.Pair op a b)
unfolding shape-the_row-Expr-0 hidden-the_row-Expr-0 hidden
each_pair P op a b h k = (h, k)

bound_columns : (names : Scope) (e : RawExpr) → has_unknown names e ≡ false → EachColumn (IsInScope names) (bound names e)
bound_columns names (raw.Literal v) h = tt
bound_columns names (raw.Ref r) h = found_column names r (column_of names r) refl h
bound_columns names (raw.Agg i) h = listed_column names i (slice_get names.aggs i) refl (listed names.aggs i h)
bound_columns names (raw.Neg' s (more_of-RawExpr a end_of-RawExpr)) h = each_neg (IsInScope names) (bound names a) (bound_columns names a h)
bound_columns names (raw.Not' s (more_of-RawExpr a end_of-RawExpr)) h = each_not (IsInScope names) (bound names a) (bound_columns names a h)
bound_columns names (raw.Pair' op s (more_of-RawExpr a end_of-RawExpr) t (more_of-RawExpr b end_of-RawExpr)) h =
    let parts = neither _ _ h in
    each_pair (IsInScope names) op (bound names a) (bound names b) (bound_columns names a parts.0) (bound_columns names b parts.1)

-- an answer is the bound expression, which has no unknown column and is typed
answered : (names : Scope) (r : RawExpr) (e : Expr) → typed names r ≡ Ok e → (has_unknown names r ≡ false) × (is_typed (bound names r) ≡ true) × (bound names r ≡ e)
answered names r e = go (has_unknown names r) refl (has_ambiguous names r) refl (is_typed (bound names r)) refl
  where
    go : (u : Bool) → has_unknown names r ≡ u → (a : Bool) → has_ambiguous names r ≡ a → (t : Bool) → is_typed (bound names r) ≡ t → typed names r ≡ Ok e
        → (has_unknown names r ≡ false) × (is_typed (bound names r) ≡ true) × (bound names r ≡ e)
    go true u a p t q h = absurd (let k = (rw u at h) in cc)
    go false u true p t q h = absurd (let k = (rw (u, p) at h) in cc)
    go false u false p true q h = (u, q, let k = (rw (u, p, q) at h) in cc)
    go false u false p false q h = absurd (let k = (rw (u, p, q) at h) in cc)

pub typed_typed : (names : Scope) (r : RawExpr) (e : Expr) → typed names r ≡ Ok e → is_typed e ≡ true
typed_typed names r e h = let w = answered names r e h in subst (λ (x : Expr). is_typed x ≡ true) w.2 w.1

pub typed_columns : (names : Scope) (r : RawExpr) (e : Expr) → typed names r ≡ Ok e → EachColumn (IsInScope names) e
typed_columns names r e h = let w = answered names r e h in subst (λ (x : Expr). EachColumn (IsInScope names) x) w.2 (bound_columns names r w.0)
