-- What names stand for is among the columns that they see.
use Rattle.std.proofs.Common.{◌≡◌, ℕ, zero, suc, ◌+◌, ◌<◌, ◌≤◌, Bool, true, false, not, ◌||◌, ◌&&◌, List, [], ◌∷◌, ◌++◌, map, filter, flat_map, length, refl, sym, ap, ap₂, ◌∙◌, subst, arith, Option, Some, None, slice_get}
use Rattle.std.specs.Prelude.{find, is_some, option_map}
use Rattle.std.specs.Option.{option_map_or}
use Rattle.std.specs.List.{list_any}
use Rattle.std.proofs.lemmas.List.{length-append}
use denote.Hole.Carrier.{hidden}
use Rattle.scope_value.specs.declared.schema.Column.{Column}
use Rattle.scope_value.specs.declared.schema.ColType.{ColType}
use Rattle.script_trees.specs.declared.key.RawKey.{RawKey}
use Rattle.script_trees.specs.declared.op.PairOp.{PairOp}
use Rattle.script_trees.specs.declared.raw.RawRef.{RawRef}
use Rattle.script_trees.specs.declared.raw.RawExpr.{RawExpr, end_of-RawExpr, more_of-RawExpr}
use Rattle.script_trees.specs.declared.raw.RawExpr.TheVariants as raw
use Rattle.script_trees.specs.declared.stored.RawStored.{RawStored}
use Rattle.scope_expr.specs.declared.expr.Expr.{Expr}
use Rattle.scope_expr.specs.declared.expr.Expr.TheVariants as expr
use Rattle.scope_expr.specs.declared.expr.Expr.TheBlock.{shape-the_row-Expr-0, hidden-the_row-Expr-0}
use Rattle.scope_expr.specs.declared.scope.Entry.{Entry}
use Rattle.scope_expr.specs.declared.scope.Scope.{Scope}
use Rattle.scope_expr.specs.Names.{column_of, is_named, is_unknown, entry_column, agg_column, bound}
use Rattle.names_in_sight.specs.declared.input.Input.{Input}
use Rattle.names_in_sight.specs.declared.sides.Sides.{Sides}
use Rattle.names_in_sight.specs.Inputs.{columns_of_all}
use Rattle.names_in_sight.specs.Sight.{seen_from, sight_from, sight_of, sight_of_columns, place_of, named_by, keys_of}
use Rattle.names_in_sight.specs.Views.{are_sides, left_of, right_of, pair_of, pairs_of}
use Rattle.name_resolution.specs.Resolved.{stored_of}
use Rattle.binding_causes.specs.Asked.{columns_of, keys_opt, stored_opt}
use Rattle.binding_causes.specs.Columns.{has_no_sides}
use Rattle.script_meaning.specs.Placed.{IsBelow, IsBelowOpt, ArePlaces, IsOrderBelow, IsPresortBelow, IsStoredBelow, ArePairs}

-- ---- tests that fail

pub neither : (a b : Bool) → (a || b) ≡ false → (a ≡ false) × (b ≡ false)
neither false b h = (refl, h)
neither true b h = absurd (cc)

pub none_left : {X : Type 0} (p : X → Bool) (xs ys : List X) → list_any p (xs ++ ys) ≡ false → (list_any p xs ≡ false) × (list_any p ys ≡ false)
none_left p [] ys h = (refl, h)
none_left p (x ∷ xs) ys h =
    let a = neither (p x) (list_any p (xs ++ ys)) h in
    let b = none_left p xs ys a.1 in
    (rw a.0 b.0, b.1)

pub known : (b : Bool) → not b ≡ false → b ≡ true
known true h = refl
known false h = absurd (cc)

-- ---- columns in sight

-- they have the places from this one on, in order
abbrev pub AreFrom : ℕ → List Entry → Type 0
AreFrom at [] = Unit {0}
AreFrom at (e ∷ es) = (e.id ≡ at) × AreFrom (at + 1) es

-- each has a place below n
abbrev pub AreEntriesBelow : ℕ → List Entry → Type 0
AreEntriesBelow n [] = Unit {0}
AreEntriesBelow n (e ∷ es) = (e.id < n) × AreEntriesBelow n es

abbrev pub AreAggsBelow : ℕ → List (ℕ × ColType) → Type 0
AreAggsBelow n [] = Unit {0}
AreAggsBelow n (a ∷ aggs) = (a.0 < n) × AreAggsBelow n aggs

-- so it is for all that names see
pub record IsSightBelow (n : ℕ) (names : Scope) : Type 0 where
  pub entries : AreEntriesBelow n names.entries
  pub aggs : AreAggsBelow n names.aggs

pub seen_are_from : (alias : Option (List ℕ)) (at : ℕ) (columns : List Column) → AreFrom at (seen_from alias at columns)
seen_are_from alias at [] = tt
seen_are_from alias at (c ∷ cs) = (refl, seen_are_from alias (at + 1) cs)

pub length_seen : (alias : Option (List ℕ)) (at : ℕ) (columns : List Column) → length (seen_from alias at columns) ≡ length columns
length_seen alias at [] = refl
length_seen alias at (c ∷ cs) = ap suc (length_seen alias (at + 1) cs)

from_here : (xs : List Entry) (a b : ℕ) → a ≡ b → AreFrom a xs → AreFrom b xs
from_here xs a b e h = subst (λ (n : ℕ). AreFrom n xs) e h

from_append : (at : ℕ) (xs ys : List Entry) → AreFrom at xs → AreFrom (at + length xs) ys → AreFrom at (xs ++ ys)
from_append at [] ys h k = from_here ys (at + 0) at (omega arith) k
from_append at (x ∷ xs) ys h k = (h.0, from_append (at + 1) xs ys h.1 (from_here ys (at + suc (length xs)) (at + 1 + length xs) (omega arith) k))

pub sight_are_from : (at : ℕ) (inputs : List Input) → AreFrom at (sight_from at inputs)
sight_are_from at [] = tt
sight_are_from at (i ∷ inputs) =
    let long = length_seen i.alias at i.columns in
    from_append at (seen_from i.alias at i.columns) (sight_from (at + length i.columns) inputs) (seen_are_from i.alias at i.columns)
    (from_here (sight_from (at + length i.columns) inputs) (at + length i.columns) (at + length (seen_from i.alias at i.columns)) (ap (λ n. at + n) (sym long)) (sight_are_from (at + length i.columns) inputs))

pub length_sight : (at : ℕ) (inputs : List Input) → length (sight_from at inputs) ≡ length (columns_of_all inputs)
length_sight at [] = refl
length_sight at (i ∷ inputs) =
    length-append (seen_from i.alias at i.columns) (sight_from (at + length i.columns) inputs)
    ∙ ap₂ (λ m n. m + n) (length_seen i.alias at i.columns) (length_sight (at + length i.columns) inputs)
    ∙ sym (length-append i.columns (columns_of_all inputs))

pub from_below : (at n : ℕ) (es : List Entry) → AreFrom at es → at + length es ≤ n → AreEntriesBelow n es
from_below at n [] h l = tt
from_below at n (e ∷ es) h l = (let same : e.id ≡ at = h.0 in omega arith, from_below (at + 1) n es h.1 (omega arith))

pub sight_below : (inputs : List Input) → IsSightBelow (length (columns_of_all inputs)) (sight_of inputs)
sight_below inputs = record {
  entries = let long = length_sight 0 inputs in from_below 0 (length (columns_of_all inputs)) (sight_from 0 inputs) (sight_are_from 0 inputs) (omega (arith, long));
  aggs = tt;
}

pub columns_below : (columns : List Column) → IsSightBelow (length columns) (sight_of_columns columns)
columns_below columns = record {
  entries = let long = length_seen None 0 columns in from_below 0 (length columns) (seen_from None 0 columns) (seen_are_from None 0 columns) (omega (arith, long));
  aggs = tt;
}

-- ---- places of names

find_below : (n : ℕ) (p : Entry → Bool) (es : List Entry) → AreEntriesBelow n es → is_some (find p es) ≡ true → option_map_or (λ e. e.id) (find p es) 0 < n
find_below n p [] h k = absurd (cc)
find_below n p (e ∷ es) h k = go (p e) refl (find_below n p es h.1)
  where
    go : (b : Bool) → p e ≡ b → (is_some (find p es) ≡ true → option_map_or (λ e. e.id) (find p es) 0 < n) → option_map_or (λ e. e.id) (find p (e ∷ es)) 0 < n
    go true t more = rw t (h.0)
    go false t more = let there : is_some (find p es) ≡ true = (rw t at k) in rw t (more there)

pub place_below : (n : ℕ) (names : Scope) → IsSightBelow n names → (r : RawRef) → is_unknown names r ≡ false → place_of names r < n
place_below n names is r h = find_below n (is_named r) names.entries is.entries (known (is_some (column_of names r)) h)

pub places_below : (n : ℕ) (names : Scope) → IsSightBelow n names → (refs : List RawRef) → list_any (is_unknown names) refs ≡ false → ArePlaces n (map (place_of names) refs)
places_below n names is [] h = tt
places_below n names is (r ∷ refs) h =
    let a = neither (is_unknown names r) (list_any (is_unknown names) refs) h in
    (place_below n names is r a.0, places_below n names is refs a.1)

filter_below : (n : ℕ) (p : Entry → Bool) (es : List Entry) → AreEntriesBelow n es → ArePlaces n (map (λ e. e.id) (filter p es))
filter_below n p [] h = tt
filter_below n p (e ∷ es) h = go (p e) refl (filter_below n p es h.1)
  where
    go : (b : Bool) → p e ≡ b → ArePlaces n (map (λ e. e.id) (filter p es)) → ArePlaces n (map (λ e. e.id) (filter p (e ∷ es)))
    go true t more = rw t (h.0, more)
    go false t more = rw t more

pub named_below : (n : ℕ) (names : Scope) → IsSightBelow n names → (r : RawRef) → ArePlaces n (named_by names r)
named_below n names is r = filter_below n (is_named r) names.entries is.entries

places_append : (n : ℕ) (ps qs : List ℕ) → ArePlaces n ps → ArePlaces n qs → ArePlaces n (ps ++ qs)
places_append n [] qs h k = k
places_append n (p ∷ ps) qs h k = (h.0, places_append n ps qs h.1 k)

pub all_named_below : (n : ℕ) (names : Scope) → IsSightBelow n names → (refs : List RawRef) → ArePlaces n (flat_map (named_by names) refs)
all_named_below n names is [] = tt
all_named_below n names is (r ∷ refs) = places_append n (named_by names r) (flat_map (named_by names) refs) (named_below n names is r) (all_named_below n names is refs)

-- ---- keys

pub keys_below : (n : ℕ) (names : Scope) → IsSightBelow n names → (keys : List RawKey) → list_any (is_unknown names) (columns_of keys) ≡ false → IsOrderBelow n (keys_of names keys)
keys_below n names is [] h = tt
keys_below n names is (k ∷ keys) h =
    let a = neither (is_unknown names k.column) (list_any (is_unknown names) (columns_of keys)) h in
    (place_below n names is k.column a.0, keys_below n names is keys a.1)

-- some key of the list is unknown where it is seen
abbrev pub are_unknown : Scope × List RawRef → Bool
are_unknown k = list_any (is_unknown k.0) k.1

pub keys_opt_below : (n : ℕ) (names : Scope) → IsSightBelow n names → (keys : Option (List RawKey)) → list_any are_unknown (keys_opt names keys) ≡ false
    → IsPresortBelow n (option_map (keys_of names) keys)
keys_opt_below n names is None h = tt
keys_opt_below n names is (Some keys) h = keys_below n names is keys (neither (are_unknown (names, columns_of keys)) false h).0

pub stored_below : (n : ℕ) (names : Scope) → IsSightBelow n names → (stored : Option RawStored) → list_any are_unknown (stored_opt names stored) ≡ false → IsStoredBelow n (stored_of names stored)
stored_below n names is None h = tt
stored_below n names is (Some s) h =
    let a = neither (are_unknown (names, s.hash)) (list_any are_unknown (keys_opt names s.sorted)) h in
    (places_below n names is s.hash a.0, keys_opt_below n names is s.sorted a.1)

-- ---- equalities

both_known : (a b : Bool) → (not a && not b) ≡ true → (a ≡ false) × (b ≡ false)
both_known false false h = (refl, refl)
both_known false true h = absurd (cc)
both_known true b h = absurd (cc)

pub pair_below : (m n : ℕ) (sides : Sides) → IsSightBelow m sides.left → IsSightBelow n sides.right → (p : RawRef × RawRef) → has_no_sides sides p ≡ false
    → ((pair_of sides p).0 < m) × ((pair_of sides p).1 < n)
pair_below m n sides left right p h = go (are_sides sides p.0 p.1) refl (are_sides sides p.1 p.0) refl
  where
    go : (b : Bool) → are_sides sides p.0 p.1 ≡ b → (c : Bool) → are_sides sides p.1 p.0 ≡ c → ((pair_of sides p).0 < m) × ((pair_of sides p).1 < n)
    go true e c f =
        let k = both_known (is_unknown sides.left p.0) (is_unknown sides.right p.1) e in
        let first : left_of sides p ≡ p.0 = (rw e refl) in
        let second : right_of sides p ≡ p.1 = (rw e refl) in
        rw (first, second) (place_below m sides.left left p.0 k.0, place_below n sides.right right p.1 k.1)
    go false e true f =
        let k = both_known (is_unknown sides.left p.1) (is_unknown sides.right p.0) f in
        let first : left_of sides p ≡ p.1 = (rw e refl) in
        let second : right_of sides p ≡ p.0 = (rw e refl) in
        rw (first, second) (place_below m sides.left left p.1 k.0, place_below n sides.right right p.0 k.1)
    go false e false f = absurd (let k = (rw (e, f) at h) in cc)

pub pairs_below : (m n : ℕ) (sides : Sides) → IsSightBelow m sides.left → IsSightBelow n sides.right → (on : List (RawRef × RawRef)) → list_any (has_no_sides sides) on ≡ false
    → ArePairs m n (pairs_of sides on)
pairs_below m n sides left right [] h = tt
pairs_below m n sides left right (p ∷ on) h =
    let a = neither (has_no_sides sides p) (list_any (has_no_sides sides) on) h in
    let b = pair_below m n sides left right p a.0 in
    (b.0, b.1, pairs_below m n sides left right on a.1)

-- ---- expressions

entry_below : (n : ℕ) (p : Entry → Bool) (es : List Entry) → AreEntriesBelow n es → IsBelow n (entry_column (find p es))
entry_below n p [] h = tt
entry_below n p (e ∷ es) h = go (p e) refl (entry_below n p es h.1)
  where
    go : (b : Bool) → p e ≡ b → IsBelow n (entry_column (find p es)) → IsBelow n (entry_column (find p (e ∷ es)))
    go true t more = rw t h.0
    go false t more = rw t more

agg_below : (n : ℕ) (aggs : List (ℕ × ColType)) → AreAggsBelow n aggs → (i : ℕ) → IsBelow n (agg_column (slice_get aggs i))
agg_below n [] h i = tt
agg_below n (a ∷ aggs) h zero = h.0
agg_below n (a ∷ aggs) h (suc i) = agg_below n aggs h.1 i

below_neg : (n : ℕ) (a : Expr) → IsBelow n a → IsBelow n (expr.Neg a)
unfolding shape-the_row-Expr-0 hidden-the_row-Expr-0 hidden
below_neg n a h = h

below_not : (n : ℕ) (a : Expr) → IsBelow n a → IsBelow n (expr.Not a)
unfolding shape-the_row-Expr-0 hidden-the_row-Expr-0 hidden
below_not n a h = h

below_pair : (n : ℕ) (op : PairOp) (a b : Expr) → IsBelow n a → IsBelow n b → IsBelow n (expr.Pair op a b)
unfolding shape-the_row-Expr-0 hidden-the_row-Expr-0 hidden
below_pair n op a b h k = (h, k)

-- an expression sees nothing else; what is unknown stands as NULL
pub bound_below : (n : ℕ) (names : Scope) → IsSightBelow n names → (e : RawExpr) → IsBelow n (bound names e)
bound_below n names is (raw.Literal v) = tt
bound_below n names is (raw.Ref r) = entry_below n (is_named r) names.entries is.entries
bound_below n names is (raw.Agg i) = agg_below n names.aggs is.aggs i
bound_below n names is (raw.Neg' s (more_of-RawExpr a end_of-RawExpr)) = below_neg n (bound names a) (bound_below n names is a)
bound_below n names is (raw.Not' s (more_of-RawExpr a end_of-RawExpr)) = below_not n (bound names a) (bound_below n names is a)
bound_below n names is (raw.Pair' op s (more_of-RawExpr a end_of-RawExpr) t (more_of-RawExpr b end_of-RawExpr)) =
    below_pair n op (bound names a) (bound names b) (bound_below n names is a) (bound_below n names is b)

pub bound_opt_below : (n : ℕ) (names : Scope) → IsSightBelow n names → (o : Option RawExpr) → IsBelowOpt n (option_map (bound names) o)
bound_opt_below n names is None = tt
bound_opt_below n names is (Some e) = bound_below n names is e
