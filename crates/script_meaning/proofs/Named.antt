-- What a node over renumbered columns names is there.
use Rattle.std.proofs.Common.{◌≡◌, ℕ, zero, suc, ◌+◌, ◌<◌, ◌≤◌, Bool, true, false, List, [], ◌∷◌, map, length, get_or, refl, ap, ◌∙◌, arith, Option, Some, None}
use Rattle.std.specs.Prelude.{option_map, All}
use Rattle.std.specs.List.{range_with_len}
use Rattle.std.proofs.lemmas.List.FromFn.{length-range_with_len}
use denote.Hole.Carrier.{hidden}
use Rattle.col_sets.specs.declared.dir.Dir.{Dir}
use Rattle.col_sets.specs.Sets.{has, within, IsColumnSet}
use Rattle.col_sets.specs.Tests.{and_true, or_left, or_right, to_test}
use Rattle.script_trees.specs.declared.agg.AggKind.{AggKind}
use Rattle.scope_expr.specs.declared.expr.Expr.{Expr, end_of-Expr, more_of-Expr}
use Rattle.scope_expr.specs.declared.expr.Expr.TheBlock.{shape-the_row-Expr-0, hidden-the_row-Expr-0}
use Rattle.scope_expr.specs.declared.expr.Expr.TheVariants.{Literal, Col, Neg', Not', Pair'}
use Rattle.logical_trees.specs.declared.agg.Agg.{Agg}
use Rattle.logical_trees.specs.Rows.{order_of}
use Rattle.logical_trees.specs.Formed.{IsOver, IsArgumentOver, IsOrderOver, IsGroup, IsCall, IsJoin}
use Rattle.logical_dag.specs.Scripts.{IsStoredOver}
use Rattle.scope_expr.specs.Moved.{moved}
use Rattle.column_ranks.specs.Rising.{IsRising}
use Rattle.column_ranks.specs.RisingLemmas.{rising_le, rising_from, rising_below, rising_set, rising_range}
use Rattle.placed_trees.specs.declared.call.Call.{Call}
use Rattle.placed_trees.specs.declared.source.StoredPlaces.{StoredPlaces}
use Rattle.script_meaning.specs.Part.{numbered, order_at, stored_at, call_at}
use Rattle.script_meaning.specs.Placed.{IsBelow, IsBelowOpt, AreBelow, AreArgsBelow, ArePlaces, IsOrderBelow, IsPresortBelow, IsStoredBelow, ArePairs}
use Rattle.script_meaning.proofs.Shaped.{rising_weaken}

-- ---- all elements

pub all_none : {X : Type 0} (P : X → Type 0) → All P []
all_none P k d l = absurd (omega arith)

pub all_more : {X : Type 0} (P : X → Type 0) (x : X) (xs : List X) → P x → All P xs → All P (x ∷ xs)
all_more P x xs p h zero d l = p
all_more P x xs p h (suc k) d l = h k d (omega arith)

-- ---- columns by place

-- the column at a place is there
pub has_number : (c : ℕ) (s : List ℕ) (p : ℕ) → p < length s → has (map (λ q. c + q) s) (c + get_or s p 128) ≡ true
has_number c [] p l = absurd (omega arith)
has_number c (d ∷ s) zero l = or_left _ _ (to_test (c + d) (c + d) refl)
has_number c (d ∷ s) (suc p) l = or_right _ _ (has_number c s p (omega arith))

-- a list that ascends names places
pub rising_places : (a n : ℕ) (s : List ℕ) → IsRising a s n → ArePlaces n s
rising_places a n [] h = tt
rising_places a n (p ∷ s) h = (rising_le (suc p) n s h.1, rising_places (suc p) n s h.1)

module _ (f : ℕ → ℕ) (cols : List ℕ) (n : ℕ) (there : (p : ℕ) → p < n → has cols (f p) ≡ true) where
  pub over_moved : (e : Expr) → IsBelow n e → IsOver cols (moved f e)
  unfolding shape-the_row-Expr-0 hidden-the_row-Expr-0 hidden
  over_moved (Literal v) h = tt
  over_moved (Col p k) h = there p h
  over_moved (Neg' s (more_of-Expr a end_of-Expr)) h = over_moved a h
  over_moved (Not' s (more_of-Expr a end_of-Expr)) h = over_moved a h
  over_moved (Pair' op s (more_of-Expr a end_of-Expr) t (more_of-Expr b end_of-Expr)) h = (over_moved a h.0, over_moved b h.1)

  pub all_over : (es : List Expr) → AreBelow n es → All (IsOver cols) (map (moved f) es)
  all_over [] h = all_none (IsOver cols)
  all_over (e ∷ es) h = all_more (IsOver cols) (moved f e) (map (moved f) es) (over_moved e h.0) (all_over es h.1)

  arg_over : (o : Option Expr) → IsBelowOpt n o → IsArgumentOver cols (option_map (moved f) o)
  arg_over None h = tt
  arg_over (Some e) h = over_moved e h

  pub args_over : (e : ℕ) (aggs : List (AggKind × Option Expr)) → AreArgsBelow n aggs → All (λ (a : Agg). IsArgumentOver cols a.arg) (numbered f e aggs)
  args_over e [] h = all_none (λ (a : Agg). IsArgumentOver cols a.arg)
  args_over e (g ∷ aggs) h =
      all_more (λ (a : Agg). IsArgumentOver cols a.arg) (record { kind = g.0; arg = option_map (moved f) g.1; id = e }) (numbered f (e + 1) aggs) (arg_over g.1 h.0) (args_over (e + 1) aggs h.1)

  pub within_moved : (ps : List ℕ) → ArePlaces n ps → within (map f ps) cols ≡ true
  within_moved [] h = refl
  within_moved (p ∷ ps) h = and_true _ _ (there p h.0) (within_moved ps h.1)

  pub order_moved : (order : List (ℕ × Dir)) → IsOrderBelow n order → IsOrderOver cols (map (λ k. (f k.0, k.1)) order)
  order_moved [] h = refl
  order_moved (k ∷ order) h = and_true _ _ (there k.0 h.0) (order_moved order h.1)

  pub presort_over : (presort : Option (List (ℕ × Dir))) → IsPresortBelow n presort → IsOrderOver cols (order_of (order_at f presort))
  presort_over None h = refl
  presort_over (Some order) h = order_moved order h

  pub stored_over : (stored : Option StoredPlaces) → IsStoredBelow n stored → IsStoredOver cols (stored_at f stored)
  stored_over None h = tt
  stored_over (Some s) h = (within_moved s.hash h.0, presort_over s.sorted h.1)

pub sides_moved : (f g : ℕ → ℕ) (left right : List ℕ) (m n : ℕ) → ((p : ℕ) → p < m → has left (f p) ≡ true) → ((p : ℕ) → p < n → has right (g p) ≡ true) → (on : List (ℕ × ℕ)) → ArePairs m n on
    → All (λ (p : ℕ × ℕ). (has left p.0 ≡ true) × (has right p.1 ≡ true)) (map (λ p. (f p.0, g p.1)) on)
sides_moved f g left right m n h k [] l = all_none (λ (p : ℕ × ℕ). (has left p.0 ≡ true) × (has right p.1 ≡ true))
sides_moved f g left right m n h k (p ∷ on) l =
    all_more (λ (p : ℕ × ℕ). (has left p.0 ≡ true) × (has right p.1 ≡ true)) (f p.0, g p.1) (map (λ p. (f p.0, g p.1)) on) (h p.0 l.0, k p.1 l.1) (sides_moved f g left right m n h k on l.2)

-- ---- aggregates

id_at : (f : ℕ → ℕ) (e : ℕ) (aggs : List (AggKind × Option Expr)) (k : ℕ) (d : Agg) → k < length (numbered f e aggs) → (get_or (numbered f e aggs) k d).id ≡ e + k
id_at f e [] k d l = absurd (omega arith)
id_at f e (g ∷ aggs) zero d l = omega arith
id_at f e (g ∷ aggs) (suc k) d l = let h : (get_or (numbered f (e + 1) aggs) k d).id ≡ e + 1 + k = id_at f (e + 1) aggs k d (omega arith) in h ∙ omega arith

numbered_length : (f : ℕ → ℕ) (e : ℕ) (aggs : List (AggKind × Option Expr)) → length (numbered f e aggs) ≡ length aggs
numbered_length f e [] = refl
numbered_length f e (g ∷ aggs) = ap suc (numbered_length f (e + 1) aggs)

pub group_formed : (written : Option (List ℕ)) (f : ℕ → ℕ) (keys : List ℕ) (aggs : List (AggKind × Option Expr)) (e : ℕ) → IsRising 0 (map f keys) e → e + length aggs ≤ 128
    → IsGroup (record { written = written; keys = map f keys; aggs = numbered f e aggs })
group_formed written f keys aggs e rising room = record {
  key_set = rising_set e (map f keys) rising (omega arith);
  below = λ k d l. let i : (get_or (numbered f e aggs) k d).id ≡ e + k = id_at f e aggs k d l in let n = numbered_length f e aggs in omega (arith, i, n);
  own = λ k d l. let i : (get_or (numbered f e aggs) k d).id ≡ e + k = id_at f e aggs k d l in free ((get_or (numbered f e aggs) k d).id) (omega (arith, i));
  different = λ j k d p q h.
      let i : (get_or (numbered f e aggs) j d).id ≡ e + j = id_at f e aggs j d (omega arith) in
      let m : (get_or (numbered f e aggs) k d).id ≡ e + k = id_at f e aggs k d q in
      omega (arith, i, m, h);
}
  where
    free : (c : ℕ) → e ≤ c → has (map f keys) c ≡ false
    free c l = go (has (map f keys) c) refl
      where
        go : (b : Bool) → has (map f keys) c ≡ b → has (map f keys) c ≡ false
        go true h = let m : c < e = rising_below 0 e (map f keys) c rising h in absurd (omega arith)
        go false h = h

-- ---- calls and joins

pub range_set : (c n : ℕ) → c + n ≤ 128 → IsColumnSet (range_with_len c n)
range_set c n l = rising_set (c + n) (range_with_len c n) (rising_weaken 0 c _ _ (omega arith) (rising_range c n _ refl)) l

pub call_formed : (call : Call) (c : ℕ) → c + length call.output ≤ 128 → IsCall (call_at call c)
call_formed call c l = record { set = range_set c (length call.output) l; whole = length-range_with_len c (length call.output) }

pub join_formed : (left right : List ℕ) (m b : ℕ) (on : List (ℕ × ℕ)) → IsRising 0 left m → IsRising m right b → 0 < length on
    → All (λ (p : ℕ × ℕ). (has left p.0 ≡ true) × (has right p.1 ≡ true)) on → IsJoin left right on
join_formed left right m b on h k some sides = record {
  apart = λ c p q. let lo : m ≤ c = rising_from m b right c k q in let hi : c < m = rising_below 0 m left c h p in omega arith;
  some = some;
  sides = sides;
}
