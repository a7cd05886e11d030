-- Rows over renumbered columns, and rows over ascending columns by place.
use Rattle.std.proofs.Common.{◌≡◌, ℕ, suc, ◌+◌, ◌<◌, ◌≤◌, Bool, true, false, cond, ◌&&◌, List, [], ◌∷◌, ◌++◌, map, length, refl, ap, ap₂, ◌∙◌, arith, nat_lt, Option, Some, None, IsPermutation, subst}
use Rattle.std.specs.List.{range_with_len}
use Rattle.std.specs.Prelude.{option_map}
use Rattle.std.specs.Ordering.{eq_by_cmp}
use Rattle.std.proofs.lemmas.Bool.Decides.{nat_tests}
use Rattle.std.proofs.lemmas.List.Sorted.{IsPermutation-refl}
use Rattle.scope_value.specs.declared.value.Value.{Value}
use Rattle.scope_value.specs.Keys.{column}
use Rattle.scope_value.specs.Order.{value_cmp}
use Rattle.col_sets.specs.declared.dir.Dir.{Dir}
use Rattle.col_sets.specs.Sets.{has, rank}
use Rattle.col_sets.specs.Tests.{or_left, or_right, to_test}
use Rattle.structural_props.specs.Rows.{value_at, key_of, items, item}
use Rattle.scope_expr.specs.declared.expr.Expr.{Expr}
use Rattle.scope_expr.specs.Value.{value, holds, is_true}
use Rattle.logical_trees.specs.Rows.{Row, row_over, projected, agree_on, merged, argument}
use Rattle.logical_trees.specs.RowLemmas.{map_members}
use Rattle.scope_expr.specs.Moved.{HasRanks, moved}
use Rattle.column_ranks.specs.Rising.{IsRising}
use Rattle.column_ranks.specs.RisingLemmas.{rising_from, rising_below, rising_append, rank_below, union_append}
use Rattle.scope_expr.specs.ValueLemmas.{value_moved}
use Rattle.std.proofs.lemmas.List.{map-append}

-- a map of a map
pub map_twice : {X Y Z : Type 0} (f : X → Y) (g : Y → Z) (h : X → Z) → ((x : X) → g (f x) ≡ h x) → (xs : List X) → map g (map f xs) ≡ map h xs
map_twice f g h e [] = refl
map_twice f g h e (x ∷ xs) = ap₂ (λ y ys. y ∷ ys) (e x) (map_twice f g h e xs)

pub map_over_append : {X Y : Type 0} (f : X → Y) (xs ys : List X) → map f (xs ++ ys) ≡ map f xs ++ map f ys
map_over_append f xs ys = map-append f xs ys

-- ---- renumbered columns

module _ (f : ℕ → ℕ) (base cols : List ℕ) (h : HasRanks f base cols) where
  pub at_moved : (p : ℕ) (r : Row) → value_at cols r (f p) ≡ value_at base r p
  at_moved p r = ap (λ i. column i r) (h p)

  pub holds_moved : (e : Expr) → (r : Row) → holds (moved f e) cols r ≡ holds e base r
  holds_moved e r = ap is_true (value_moved f base cols h e r)

  pub projected_moved : (es : List Expr) → (r : Row) → projected (map (moved f) es) cols r ≡ projected es base r
  projected_moved es r = map_twice (moved f) (λ e. value e cols r) (λ e. value e base r) (λ e. value_moved f base cols h e r) es

  pub key_moved : (key : List ℕ) (r : Row) → key_of cols (map f key) r ≡ key_of base key r
  key_moved key r = map_twice f (value_at cols r) (value_at base r) (λ p. at_moved p r) key

  pub items_moved : (order : List (ℕ × Dir)) → items cols (map (λ k. (f k.0, k.1)) order) ≡ items base order
  items_moved order =
      map_twice (λ (k : ℕ × Dir). (f k.0, k.1)) (λ (k : ℕ × Dir). item cols k.0 k.1) (λ (k : ℕ × Dir). item base k.0 k.1)
      (λ k i. record { place = h k.0 i; down = (item base k.0 k.1).down }) order

  pub argument_moved : (arg : Option Expr) → (r : Row) → argument (option_map (moved f) arg) cols r ≡ argument arg base r
  argument_moved None r = refl
  argument_moved (Some e) r = value_moved f base cols h e r

pub agree_moved : (f g : ℕ → ℕ) (base cols base' cols' : List ℕ) → HasRanks f base cols → HasRanks g base' cols' → (on : List (ℕ × ℕ)) (r s : Row)
    → agree_on (map (λ p. (f p.0, g p.1)) on) cols cols' r s ≡ agree_on on base base' r s
agree_moved f g base cols base' cols' h k [] r s = refl
agree_moved f g base cols base' cols' h k (p ∷ on) r s =
    ap₂ (λ a b. a && b)
    (ap₂ (λ v w. eq_by_cmp value_cmp v w) (at_moved f base cols h p.0 r) (at_moved g base' cols' k p.1 s))
    (agree_moved f g base cols base' cols' h k on r s)

-- ---- all values of a row

-- the first n values of a row, null where it ends before
abbrev pub values : ℕ → Row → Row
values n r = map (λ p. column p r) (range_with_len 0 n)

pub all_values : (a b : ℕ) (s : List ℕ) (e : ℕ) (r : Row) → IsRising a s b → map (λ d. column (e + rank s d) r) s ≡ map (λ p. column p r) (range_with_len e (length s))
all_values a b [] e r h = refl
all_values a b (c ∷ s) e r h =
    let none : nat_lt c c ≡ false = grind (arith, nat_tests) in
    let first : e + rank (c ∷ s) c ≡ e = rw none (let z : rank s c ≡ 0 = rank_below (suc c) b s c h.1 (omega arith) in omega (arith, z)) in
    ap₂ (λ x xs. x ∷ xs) (ap (λ i. column i r) first)
    (map_members (λ d. column (e + rank (c ∷ s) d) r) (λ d. column (e + 1 + rank s d) r) s (λ d k. ap (λ i. column i r) (next d (rising_from (suc c) b s d h.1 k)))
    ∙ all_values (suc c) b s (e + 1) r h.1)
  where
    next : (d : ℕ) → suc c ≤ d → e + rank (c ∷ s) d ≡ e + 1 + rank s d
    next d l = let yes : nat_lt c d ≡ true = grind (arith, nat_tests) in rw yes (omega arith)

pub values_over : (a b : ℕ) (s : List ℕ) (r : Row) → IsRising a s b → map (value_at s r) s ≡ values (length s) r
values_over a b s r h = map_members (value_at s r) (λ d. column (0 + rank s d) r) s (λ d k. ap (λ i. column i r) (zeroed (rank s d))) ∙ all_values a b s 0 r h
  where
    zeroed : (n : ℕ) → n ≡ 0 + n
    zeroed n = omega arith

-- a joined row has the values of the left row and then those of the right one
pub merged_values : (m b : ℕ) (left right : List ℕ) (r s : Row) → IsRising 0 left m → IsRising m right b → b ≤ 128
    → merged left right r s ≡ values (length left) r ++ values (length right) s
merged_values m b left right r s h k l =
    ap (λ cs. row_over cs pick) (union_append b left right (rising_append 0 m b left right h k) l)
    ∙ map_over_append pick left right
    ∙ ap₂ (λ x y. x ++ y)
    (map_members pick (value_at left r) left (λ c q. rw q refl) ∙ values_over 0 m left r h)
    (map_members pick (value_at right s) right (λ c q. rw (other c q) refl) ∙ values_over m b right s k)
  where
    pick : ℕ → Value
    pick c = cond (has left c) (value_at left r c) (value_at right s c)

    other : (c : ℕ) → has right c ≡ true → has left c ≡ false
    other c q = at (has left c) refl
      where
        at : (v : Bool) → has left c ≡ v → has left c ≡ false
        at true e =
            let lo : m ≤ c = rising_from m b right c k q in
            let hi : c < m = rising_below 0 m left c h e in
            absurd (omega arith)
        at false e = e
