-- What stands at places.
use Rattle.std.proofs.Common.{◌≡◌, ℕ, zero, suc, ◌+◌, ◌<◌, ◌≤◌, Bool, true, false, cond, ◌||◌, List, [], ◌∷◌, ◌++◌, map, length, get_or, take, refl, sym, ap, ap₂, ◌∙◌, arith, nat_eq, subst, length-take, Option}
use Rattle.std.specs.Prelude.{All, filter, option_map}
use Rattle.std.specs.List.{range_with_len, list_any}
use Rattle.std.proofs.lemmas.List.{take_more, map-append}
use Rattle.std.proofs.lemmas.List.Elements.{filter-append}
use Rattle.col_sets.specs.declared.dir.Dir.{Dir}
use Rattle.col_sets.specs.Keys.{IsBelow, HasColumn, IsKey, IsOrderKey}
use Rattle.col_sets.specs.Sets.{has}
use Rattle.column_ranks.specs.Rising.{IsRising}
use Rattle.column_ranks.specs.RowLemmas.{map_twice}
use Rattle.column_ranks.specs.Picked.{place_below}
use Rattle.script_meaning.specs.Meaning.{places, key_places}
use Rattle.script_trees.specs.declared.agg.AggKind.{AggKind}
use Rattle.scope_expr.specs.declared.expr.Expr.{Expr}
use Rattle.scope_expr.specs.Moved.{moved}
use Rattle.logical_trees.specs.declared.agg.Agg.{Agg}
use Rattle.script_meaning.specs.Part.{numbered}
use Rattle.script_meaning.specs.Placed.{IsBelow as IsPlaced, IsBelowOpt, AreBelow, AreArgsBelow, ArePlaces, IsOrderBelow, ArePairs}
use Rattle.script_meaning.specs.Within.{IsFew}
use Rattle.script_meaning.proofs.Shaped.{range_shift}
use Rattle.script_meaning.proofs.Named.{all_none, all_more}
use Rattle.script_nodes.specs.Steps.{column_at}

-- ---- a loop that makes one element for each

pub map_more : {A B : Type 0} (f : A → B) (xs : List A) (i : ℕ) (x : A) (out new : List B) (y : B) → i < length xs → x ≡ get_or xs i x
    → out ≡ map f (take i xs) → y ≡ f x → new ≡ out ++ y ∷ [] → new ≡ map f (take (i + 1) xs)
map_more {A} {B} f xs i x out new y lt is old made put =
    let front : take (i + 1) xs ≡ take i xs ++ x ∷ [] = take_more xs i x lt ∙ ap (λ (d : A). take i xs ++ d ∷ []) (sym is) in
    put ∙ ap₂ (λ (o : List B) (z : B). o ++ z ∷ []) old made ∙ sym (ap (map f) front ∙ map-append f (take i xs) (x ∷ []))

pub range_more : (a n : ℕ) → range_with_len a (n + 1) ≡ range_with_len a n ++ (a + n) ∷ []
range_more a zero = ap (λ i. i ∷ []) (omega arith)
range_more a (suc n) =
    let e : a + 1 + n ≡ a + suc n = omega arith in
    let m : suc n + 1 ≡ suc (n + 1) = omega arith in
    ap (range_with_len a) m
    ∙ ap (λ l. a ∷ l) (range_more (a + 1) n ∙ ap (λ i. range_with_len (a + 1) n ++ i ∷ []) e)

-- ---- places are there

any_default : (s : List ℕ) (q d e : ℕ) → q < length s → get_or s q d ≡ get_or s q e
any_default [] q d e l = absurd (omega arith)
any_default (c ∷ s) zero d e l = refl
any_default (c ∷ s) (suc q) d e l = any_default s q d e (omega arith)

pub place_there : (n : ℕ) (ps : List ℕ) (i d : ℕ) → ArePlaces n ps → i < length ps → get_or ps i d < n
place_there n [] i d h l = absurd (omega arith)
place_there n (p ∷ ps) zero d h l = h.0
place_there n (p ∷ ps) (suc i) d h l = place_there n ps i d h.1 (omega arith)

pub order_there : (n : ℕ) (order : List (ℕ × Dir)) (i : ℕ) (d : ℕ × Dir) → IsOrderBelow n order → i < length order → (get_or order i d).0 < n
order_there n [] i d h l = absurd (omega arith)
order_there n (p ∷ ps) zero d h l = h.0
order_there n (p ∷ ps) (suc i) d h l = order_there n ps i d h.1 (omega arith)

pub left_there : (m n : ℕ) (on : List (ℕ × ℕ)) (i : ℕ) (d : ℕ × ℕ) → ArePairs m n on → i < length on → (get_or on i d).0 < m
left_there m n [] i d h l = absurd (omega arith)
left_there m n (p ∷ ps) zero d h l = h.0
left_there m n (p ∷ ps) (suc i) d h l = left_there m n ps i d h.2 (omega arith)

pub right_there : (m n : ℕ) (on : List (ℕ × ℕ)) (i : ℕ) (d : ℕ × ℕ) → ArePairs m n on → i < length on → (get_or on i d).1 < n
right_there m n [] i d h l = absurd (omega arith)
right_there m n (p ∷ ps) zero d h l = h.1
right_there m n (p ∷ ps) (suc i) d h l = right_there m n ps i d h.2 (omega arith)

pub pair_any : (on : List (ℕ × ℕ)) (i : ℕ) (d e : ℕ × ℕ) → i < length on → get_or on i d ≡ get_or on i e
pair_any [] i d e l = absurd (omega arith)
pair_any (p ∷ on) zero d e l = refl
pair_any (p ∷ on) (suc i) d e l = pair_any on i d e (omega arith)

pub expr_there : (n : ℕ) (es : List Expr) (i : ℕ) (e : Expr) → AreBelow n es → i < length es → e ≡ get_or es i e → IsPlaced n e
expr_there n es i e h l is = subst (IsPlaced n) (sym is) (go es i h l)
  where
    go : (es : List Expr) (i : ℕ) → AreBelow n es → i < length es → IsPlaced n (get_or es i e)
    go [] i h l = absurd (omega arith)
    go (f ∷ es) zero h l = h.0
    go (f ∷ es) (suc i) h l = go es i h.1 (omega arith)

pub argument_there : (n : ℕ) (aggs : List (AggKind × Option Expr)) (i : ℕ) (g : AggKind × Option Expr) → AreArgsBelow n aggs → i < length aggs → g ≡ get_or aggs i g → IsBelowOpt n g.1
argument_there n aggs i g h l is = subst (λ (x : AggKind × Option Expr). IsBelowOpt n x.1) (sym is) (go aggs i h l)
  where
    go : (aggs : List (AggKind × Option Expr)) (i : ℕ) → AreArgsBelow n aggs → i < length aggs → IsBelowOpt n (get_or aggs i g).1
    go [] i h l = absurd (omega arith)
    go (f ∷ aggs) zero h l = h.0
    go (f ∷ aggs) (suc i) h l = go aggs i h.1 (omega arith)

-- ---- aggregates

numbered_append : (f : ℕ → ℕ) (e : ℕ) (xs ys : List (AggKind × Option Expr)) → numbered f e (xs ++ ys) ≡ numbered f e xs ++ numbered f (e + length xs) ys
numbered_append f e [] ys = ap (λ i. numbered f i ys) (zeroed e)
  where
    zeroed : (n : ℕ) → n ≡ n + 0
    zeroed n = omega arith
numbered_append f e (g ∷ xs) ys =
    let m : e + 1 + length xs ≡ e + suc (length xs) = omega arith in
    ap (λ l. record { kind = g.0; arg = option_map (moved f) g.1; id = e } ∷ l) (numbered_append f (e + 1) xs ys ∙ ap (λ i. numbered f (e + 1) xs ++ numbered f i ys) m)

pub numbered_more : (f : ℕ → ℕ) (e : ℕ) (aggs : List (AggKind × Option Expr)) (i : ℕ) (g : AggKind × Option Expr) (out new : List Agg) (arg : Option Expr) (id : ℕ)
    → i < length aggs → g ≡ get_or aggs i g → out ≡ numbered f e (take i aggs) → arg ≡ option_map (moved f) g.1 → id ≡ e + i
    → new ≡ out ++ record { kind = g.0; arg = arg; id = id } ∷ [] → new ≡ numbered f e (take (i + 1) aggs)
numbered_more f e aggs i g out new arg id lt is done made at put =
    let front : take (i + 1) aggs ≡ take i aggs ++ g ∷ [] = take_more aggs i g lt ∙ ap (λ (d : AggKind × Option Expr). take i aggs ++ d ∷ []) (sym is) in
    let many : e + i ≡ e + length (take i aggs) = omega (arith, length-take i aggs) in
    let place : id ≡ e + length (take i aggs) = at ∙ many in
    put ∙ (λ j. done j ++ record { kind = g.0; arg = made j; id = place j } ∷ [])
    ∙ sym (ap (numbered f e) front ∙ numbered_append f e (take i aggs) (g ∷ []))

-- ---- keys

pub all_columns : (cols ps : List ℕ) → All IsBelow cols → ArePlaces (length cols) ps → All IsBelow (map (column_at cols) ps)
all_columns cols [] b h = all_none IsBelow
all_columns cols (p ∷ ps) b h = all_more IsBelow (column_at cols p) (map (column_at cols) ps) (b p 128 h.0) (all_columns cols ps b h.1)

pub all_ordered : (cols : List ℕ) (order : List (ℕ × Dir)) → All IsBelow cols → IsOrderBelow (length cols) order → All (HasColumn {X = Dir}) (map {B = ℕ × Dir} (λ k. (column_at cols k.0, k.1)) order)
all_ordered cols [] b h = all_none (HasColumn {X = Dir})
all_ordered cols (k ∷ order) b h =
    all_more (HasColumn {X = Dir}) (column_at cols k.0, k.1) (map {B = ℕ × Dir} (λ k. (column_at cols k.0, k.1)) order) (b k.0 128 h.0) (all_ordered cols order b h.1)

length_mapped : {A B : Type 0} (f : A → B) (xs : List A) → length (map f xs) ≡ length xs
length_mapped f [] = refl
length_mapped f (x ∷ xs) = ap suc (length_mapped f xs)

pub is_key : (cols ps : List ℕ) → IsFew (length ps) → ArePlaces (length cols) ps → All IsBelow cols → IsKey (map (column_at cols) ps)
is_key cols ps few h b = let e : length (map (column_at cols) ps) ≡ length ps = length_mapped (column_at cols) ps in (omega (arith, few.0), (omega (arith, few.1), all_columns cols ps b h))

pub is_order_key : (cols : List ℕ) (order : List (ℕ × Dir)) → IsFew (length order) → IsOrderBelow (length cols) order → All IsBelow cols → IsOrderKey (map {B = ℕ × Dir} (λ k. (column_at cols k.0, k.1)) order)
is_order_key cols order few h b =
    let e : length (map {B = ℕ × Dir} (λ k. (column_at cols k.0, k.1)) order) ≡ length order = length_mapped {B = ℕ × Dir} (λ k. (column_at cols k.0, k.1)) order in
    (omega (arith, few.0), (omega (arith, few.1), all_ordered cols order b h))

-- ---- membership, and the places of a GROUP BY

pub any_has : (xs : List ℕ) (c : ℕ) → list_any (λ y. nat_eq y c) xs ≡ has xs c
any_has [] c = refl
any_has (x ∷ xs) c = ap (λ b. nat_eq x c || b) (any_has xs c)

pub keys_more : (cols written : List ℕ) (i : ℕ)
    → map (column_at cols) (key_places (i + 1) written) ≡ map (column_at cols) (key_places i written) ++ cond (has written i) (column_at cols i ∷ []) []
keys_more cols written i =
    ap (λ l. map (column_at cols) (filter (has written) l)) (range_more 0 i ∙ ap (λ j. places i ++ j ∷ []) (zeroed i))
    ∙ ap (map (column_at cols)) (filter-append (has written) (places i) (i ∷ []))
    ∙ map-append (column_at cols) (filter (has written) (places i)) (filter (has written) (i ∷ []))
    ∙ ap (λ l. map (column_at cols) (filter (has written) (places i)) ++ l) (last (has written i))
  where
    zeroed : (n : ℕ) → 0 + n ≡ n
    zeroed n = omega arith

    last : (b : Bool) → map (column_at cols) (cond b (i ∷ []) []) ≡ cond b (column_at cols i ∷ []) []
    last true = refl
    last false = refl

pub keys_taken : (cols written : List ℕ) (i : ℕ) (old new : List ℕ) → i < length cols → has written i ≡ true → old ≡ map (column_at cols) (key_places i written) → new ≡ old ++ get_or cols i 0 ∷ []
    → new ≡ map (column_at cols) (key_places (i + 1) written)
keys_taken cols written i old new lt named done put =
    let same : get_or cols i 0 ≡ column_at cols i = any_default cols i 0 128 lt in
    put ∙ (λ j. done j ++ same j ∷ []) ∙ sym (keys_more cols written i ∙ ap (λ b. map (column_at cols) (key_places i written) ++ cond b (column_at cols i ∷ []) []) named)

pub keys_left : (cols written : List ℕ) (i : ℕ) (old : List ℕ) → has written i ≡ false → old ≡ map (column_at cols) (key_places i written) → old ≡ map (column_at cols) (key_places (i + 1) written)
keys_left cols written i old named done =
    done ∙ sym (keys_more cols written i ∙ ap (λ b. map (column_at cols) (key_places i written) ++ cond b (column_at cols i ∷ []) []) named ∙ nothing_more (map (column_at cols) (key_places i written)))
  where
    nothing_more : (s : List ℕ) → s ++ [] ≡ s
    nothing_more [] = refl
    nothing_more (c ∷ s) = ap (λ l. c ∷ l) (nothing_more s)

-- ---- all places

-- the columns at all places are the list
pub all_places : (s : List ℕ) → map (column_at s) (places (length s)) ≡ s
all_places [] = refl
all_places (c ∷ s) =
    ap (λ l. c ∷ l) (ap (map (column_at (c ∷ s))) (sym (range_shift 1 0 (length s))) ∙ map_twice (λ p. 1 + p) (column_at (c ∷ s)) (column_at s) (λ p. next p) (places (length s)) ∙ all_places s)
  where
    next : (p : ℕ) → column_at (c ∷ s) (1 + p) ≡ column_at s p
    next p = let e : 1 + p ≡ suc p = omega arith in ap (column_at (c ∷ s)) e

-- ---- ascending lists

-- a list that ascends is as long as there are numbers
pub rising_length : (a b : ℕ) (s : List ℕ) → IsRising a s b → a + length s ≤ b
rising_length a b [] h = let l : a ≤ b = h in omega arith
rising_length a b (c ∷ s) h = let l : a ≤ c = h.0 in let m : suc c + length s ≤ b = rising_length (suc c) b s h.1 in omega arith

pub rising_columns : (b : ℕ) (s : List ℕ) → IsRising 0 s b → b ≤ 128 → All IsBelow s
rising_columns b s h l k d m = let n : get_or s k d < b = place_below 0 b s k d h m in omega arith
