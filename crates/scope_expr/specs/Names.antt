-- Columns by name: which are unknown, which ambiguous, and what an expression is with its columns by number.
use Rattle.std.specs.Prelude.{ℕ, Bool, true, false, not, ◌&&◌, ◌||◌, if◌then◌else◌, List, length, nat_lt, slice_get, find, count_by, Option, Some, None, is_some, Result, Ok, Err}
use Rattle.scope_value.specs.declared.value.Value.TheVariants as value
use Rattle.scope_value.specs.declared.schema.ColType.{ColType}
use Rattle.script_trees.specs.declared.raw.RawRef.{RawRef}
use Rattle.script_trees.specs.declared.raw.RawExpr.{RawExpr, end_of-RawExpr, more_of-RawExpr}
use Rattle.script_trees.specs.declared.raw.RawExpr.TheVariants as raw
use Rattle.scope_expr.specs.declared.expr.Expr.{Expr}
use Rattle.scope_expr.specs.declared.expr.Expr.TheVariants as expr
use Rattle.scope_expr.specs.declared.scope.Entry.{Entry}
use Rattle.scope_expr.specs.declared.scope.Scope.{Scope}
use Rattle.scope_expr.specs.declared.scope.TypeFault.{TypeFault}
use Rattle.scope_expr.specs.declared.scope.TypeFault.TheVariants.{Unknown, Ambiguous, Mismatch}
use Rattle.scope_expr.specs.Kinds.{is_typed}
pub use Rattle.scope_expr.specs.Sight.{is_of, is_named}

-- the column that a reference names
abbrev pub column_of : Scope → RawRef → Option Entry
column_of names r = find (is_named r) names.entries

-- some reference or some aggregate's number in the expression passes
abbrev pub names_some : (RawRef → Bool) → (ℕ → Bool) → RawExpr → Bool
names_some p q (raw.Literal v) = false
names_some p q (raw.Ref r) = p r
names_some p q (raw.Agg i) = q i
names_some p q (raw.Neg' s (more_of-RawExpr a end_of-RawExpr)) = names_some p q a
names_some p q (raw.Not' s (more_of-RawExpr a end_of-RawExpr)) = names_some p q a
names_some p q (raw.Pair' op s (more_of-RawExpr a end_of-RawExpr) t (more_of-RawExpr b end_of-RawExpr)) = names_some p q a || names_some p q b

-- no entry has the reference
abbrev pub is_unknown : Scope → RawRef → Bool
is_unknown names r = not (is_some (column_of names r))

-- two entries have the reference, which has no alias
abbrev pub is_ambiguous : Scope → RawRef → Bool
is_ambiguous names r = not (is_some r.alias) && nat_lt 1 (count_by (is_named r) names.entries)

-- some reference is unknown; an aggregate that isn't listed counts as one
abbrev pub has_unknown : Scope → RawExpr → Bool
has_unknown names = names_some (is_unknown names) (λ i. not (nat_lt i (length names.aggs)))

-- some reference is ambiguous
abbrev pub has_ambiguous : Scope → RawExpr → Bool
has_ambiguous names = names_some (is_ambiguous names) (λ i. false)

-- the column of an entry, and null where there is none
abbrev pub entry_column : Option Entry → Expr
entry_column None = expr.Literal value.Null
entry_column (Some entry) = expr.Col entry.id entry.kind

-- the column of an aggregate, and null where there is none
abbrev pub agg_column : Option (ℕ × ColType) → Expr
agg_column None = expr.Literal value.Null
agg_column (Some pair) = expr.Col pair.0 pair.1

-- the expression with each reference and each aggregate replaced by its column
abbrev pub bound : Scope → RawExpr → Expr
bound names (raw.Literal v) = expr.Literal v
bound names (raw.Ref r) = entry_column (column_of names r)
bound names (raw.Agg i) = agg_column (slice_get names.aggs i)
bound names (raw.Neg' s (more_of-RawExpr a end_of-RawExpr)) = expr.Neg (bound names a)
bound names (raw.Not' s (more_of-RawExpr a end_of-RawExpr)) = expr.Not (bound names a)
bound names (raw.Pair' op s (more_of-RawExpr a end_of-RawExpr) t (more_of-RawExpr b end_of-RawExpr)) = expr.Pair op (bound names a) (bound names b)

-- the typed expression, or the first cause that it has none: an unknown column, an ambiguous one, mismatched types
abbrev pub typed : Scope → RawExpr → Result Expr TypeFault
typed names e =
    if has_unknown names e then Err Unknown
    else if has_ambiguous names e then Err Ambiguous
    else if is_typed (bound names e) then Ok (bound names e)
    else Err Mismatch
