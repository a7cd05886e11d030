-- The columns of a part ascend, and its trees have them.
use Rattle.std.proofs.Common.{◌≡◌, ℕ, zero, suc, ◌+◌, ◌≤◌, Bool, true, false, ◌||◌, List, [], ◌∷◌, ◌++◌, map, length, get_or, refl, sym, ap, ap₂, ◌∙◌, arith, Option, Some, None, subst, slice_get, ◌==◌}
use Rattle.std.specs.List.{range_with_len}
use Rattle.std.specs.Prelude.{option_map}
use Rattle.col_sets.specs.declared.dir.Dir.{Dir}
use Rattle.col_sets.specs.Sets.{has, union}
use Rattle.col_sets.specs.Tests.{or_right}
use Rattle.script_trees.specs.declared.agg.AggKind.{AggKind}
use Rattle.scope_expr.specs.declared.expr.Expr.{Expr}
use Rattle.logical_trees.specs.declared.agg.Agg.{Agg}
use Rattle.logical_trees.specs.declared.logic_op.LogicOp.{LogicOp}
use Rattle.logical_trees.specs.declared.logic_op.LogicOp.TheVariants.{Filter, Project, Group, Process, Reduce, Top}
use Rattle.logical_trees.specs.Tree.{two, one_columns, two_columns, columns_of}
use Rattle.scope_expr.specs.Moved.{moved}
use Rattle.column_ranks.specs.Rising.{IsRising}
use Rattle.column_ranks.specs.RisingLemmas.{rising_append, rising_shift, rising_range, rising_filter, union_append}
use Rattle.column_ranks.specs.Picked.{picked}
use Rattle.column_ranks.specs.RowLemmas.{map_twice, map_over_append}
use Rattle.placed_trees.specs.declared.call.Call.{Call}
use Rattle.placed_trees.specs.declared.query.Grouping.{Grouping}
use Rattle.placed_trees.specs.declared.query.Query.{Query}
use Rattle.placed_trees.specs.declared.source.Stream.{Stream}
use Rattle.script_meaning.specs.Meaning.{places, key_places, order_list}
use Rattle.script_meaning.specs.Part.{Part, cols_at, number, nothing, scanned, referred, over, join_on, joined_part, call_at, order_at, process_part, reduce_part, combine_on, combine_part, filter_part, filter_opt, numbered, group_part, listed, grouping_opt, project_part, unique_opt, first_opt, query_part}
use Rattle.script_meaning.proofs.Grouped.{ids_numbered}

-- ---- lists

pub get_left : {X : Type 0} (xs ys : List X) (i : ℕ) (x : X) → slice_get xs i ≡ Some x → slice_get (xs ++ ys) i ≡ Some x
get_left [] ys i x h = absurd (cc)
get_left (y ∷ xs) ys zero x h = h
get_left (y ∷ xs) ys (suc i) x h = get_left xs ys i x h

pub get_right : {X : Type 0} (xs ys : List X) (i : ℕ) → slice_get (xs ++ ys) (length xs + i) ≡ slice_get ys i
get_right [] ys i = let e : 0 + i ≡ i = omega arith in rw e refl
get_right (x ∷ xs) ys i = let e : suc (length xs) + i ≡ suc (length xs + i) = omega arith in rw e (get_right xs ys i)

pub has_left : (s t : List ℕ) (c : ℕ) → has s c ≡ true → has (s ++ t) c ≡ true
has_left [] t c h = absurd (cc)
has_left (d ∷ s) t c h = go (d == c) (has_left s t c) h
  where
    go : (b : Bool) → (has s c ≡ true → has (s ++ t) c ≡ true) → (b || has s c) ≡ true → (b || has (s ++ t) c) ≡ true
    go true more k = refl
    go false more k = more k

pub has_right : (s t : List ℕ) (c : ℕ) → has t c ≡ true → has (s ++ t) c ≡ true
has_right [] t c h = h
has_right (d ∷ s) t c h = or_right _ _ (has_right s t c h)

pub range_shift : (c e n : ℕ) → map (λ p. c + p) (range_with_len e n) ≡ range_with_len (c + e) n
range_shift c e zero = refl
range_shift c e (suc n) =
    let s : c + (e + 1) ≡ c + e + 1 = omega arith in
    ap (λ l. (c + e) ∷ l) (range_shift c (e + 1) n ∙ ap (λ i. range_with_len i n) s)

pub rising_weaken : (a m b : ℕ) (s : List ℕ) → a ≤ m → IsRising m s b → IsRising a s b
rising_weaken a m b [] l h = let k : m ≤ b = h in omega arith
rising_weaken a m b (c ∷ s) l h = let k : m ≤ c = h.0 in (omega arith, h.1)

-- ---- the columns of a part

-- the columns ascend, and the trees have them where they stand
pub record IsShaped (a : Part) : Type 0 where
  pub rising : IsRising 0 a.cols a.count
  pub columns : (name : ℕ → ℕ) (s c : ℕ) → c + a.count ≤ 128 → columns_of (a.tree name s c) ≡ cols_at a c

over_shaped : (a : Part) → IsShaped a → (cols : List ℕ) (count : ℕ) (op : ℕ → LogicOp) → a.count ≤ count → IsRising 0 cols count
    → ((c : ℕ) → c + count ≤ 128 → one_columns (op c) (cols_at a c) ≡ map (λ p. c + p) cols) → IsShaped (over a cols count op)
over_shaped a t cols count op more rising columns = record {
  rising = rising;
  columns = λ name s c l. let small : c + a.count ≤ 128 = omega arith in ap (one_columns (op c)) (t.columns name s c small) ∙ columns c l;
}

-- columns that a node numbers afresh
fresh_shaped : (a : Part) → IsShaped a → (n : ℕ) (op : ℕ → LogicOp) → ((c : ℕ) → one_columns (op c) (cols_at a c) ≡ range_with_len (c + a.count) n)
    → IsShaped (over a (range_with_len a.count n) (a.count + n) op)
fresh_shaped a t n op columns =
    over_shaped a t (range_with_len a.count n) (a.count + n) op (omega arith) (rising_weaken 0 a.count _ _ (omega arith) (rising_range a.count n _ refl))
    (λ c l. columns c ∙ sym (range_shift c a.count n))

filter_shaped : (e : Expr) (a : Part) → IsShaped a → IsShaped (filter_part e a)
filter_shaped e a t = over_shaped a t a.cols a.count (λ c. Filter (moved (number a c) e)) (omega arith) t.rising (λ c l. refl)

pub filter_opt_shaped : (o : Option Expr) (a : Part) → IsShaped a → IsShaped (filter_opt o a)
filter_opt_shaped None a t = record { rising = t.rising; columns = t.columns }
filter_opt_shaped (Some e) a t = filter_shaped e a t

pub project_shaped : (es : List Expr) (a : Part) → IsShaped a → IsShaped (project_part es a)
project_shaped es a t = fresh_shaped a t (length es) (λ c. Project (map (moved (number a c)) es) (range_with_len (c + a.count) (length es))) (λ c. refl)

pub first_shaped : (o : Option ℕ) (order : List (ℕ × Dir)) (a : Part) → IsShaped a → IsShaped (first_opt o order a)
first_shaped None order a t = t
first_shaped (Some n) order a t = over_shaped a t a.cols a.count (λ c. Top (record { n = n; order = map (λ k. (number a c k.0, k.1)) order })) (omega arith) t.rising (λ c l. refl)

-- ---- groups

number_as : (a : Part) (keys : List ℕ) (c : ℕ) → map (number a c) keys ≡ map (λ p. c + p) (map (λ p. get_or a.cols p 128) keys)
number_as a keys c = sym (map_twice (λ p. get_or a.cols p 128) (λ p. c + p) (number a c) (λ p. refl) keys)

pub keys_rising : (a : Part) → IsShaped a → (keys : List ℕ) → IsRising 0 keys (length a.cols) → (c : ℕ) → IsRising 0 (map (number a c) keys) (c + a.count)
keys_rising a t keys k c =
    subst (λ (s : List ℕ). IsRising 0 s (c + a.count)) (sym (number_as a keys c))
    (rising_weaken 0 (c + 0) _ _ (omega arith) (rising_shift c 0 a.count (map (λ p. get_or a.cols p 128) keys) (picked 0 a.count a.cols 128 t.rising keys k)))

number_shift : (a : Part) (keys : List ℕ) (c : ℕ) → map (number a c) keys ≡ map (λ p. c + p) (map (number a 0) keys)
number_shift a keys c = sym (map_twice (number a 0) (λ p. c + p) (number a c) (λ p. ap (λ q. c + q) (zeroed (get_or a.cols p 128))) keys)
  where
    zeroed : (n : ℕ) → 0 + n ≡ n
    zeroed n = omega arith

pub group_shaped : (written : Option (List ℕ)) (keys : List ℕ) (aggs : List (AggKind × Option Expr)) (a : Part) → IsShaped a → IsRising 0 keys (length a.cols) → IsShaped (group_part written keys aggs a)
group_shaped written keys aggs a t k =
    over_shaped a t (map (number a 0) keys ++ range_with_len a.count (length aggs)) (a.count + length aggs)
    (λ c. Group (record { written = option_map (map (number a c)) written; keys = map (number a c) keys; aggs = numbered (number a c) (c + a.count) aggs })) (omega arith)
    (rising_append 0 a.count _ _ _ (subst (λ (n : ℕ). IsRising 0 (map (number a 0) keys) n) (omega arith) (keys_rising a t keys k 0)) (rising_range a.count (length aggs) _ refl))
    columns
  where
    columns : (c : ℕ) → c + (a.count + length aggs) ≤ 128
        → union (map (number a c) keys) (map (λ (g : Agg). g.id) (numbered (number a c) (c + a.count) aggs)) ≡ map (λ p. c + p) (map (number a 0) keys ++ range_with_len a.count (length aggs))
    columns c l =
        ap (union (map (number a c) keys)) (ids_numbered (number a c) (c + a.count) aggs)
        ∙ union_append (c + a.count + length aggs) (map (number a c) keys) (range_with_len (c + a.count) (length aggs))
        (rising_append 0 (c + a.count) _ _ _ (keys_rising a t keys k c) (rising_range (c + a.count) (length aggs) _ refl)) (omega arith)
        ∙ ap₂ (λ x y. x ++ y) (number_shift a keys c) (sym (range_shift c a.count (length aggs)))
        ∙ sym (map_over_append (λ p. c + p) (map (number a 0) keys) (range_with_len a.count (length aggs)))

pub keys_ascend : (n : ℕ) (written : List ℕ) → IsRising 0 (key_places n written) n
keys_ascend n written = rising_filter (has written) 0 n (places n) (rising_range 0 n n (omega arith))

pub grouping_shaped : (o : Option Grouping) (a : Part) → IsShaped a → IsShaped (grouping_opt o a)
grouping_shaped None a t = t
grouping_shaped (Some g) a t = group_shaped (listed g.written) (key_places (length a.cols) g.written) g.aggs a t (keys_ascend (length a.cols) g.written)

pub unique_shaped : (b : Bool) (a : Part) → IsShaped a → IsShaped (unique_opt b a)
unique_shaped false a t = t
unique_shaped true a t = group_shaped None (places (length a.cols)) [] a t (rising_range 0 (length a.cols) (length a.cols) (omega arith))

pub query_shaped : (q : Query) (a : Part) → IsShaped a → IsShaped (query_part q a)
query_shaped q a t =
    let all = first_shaped q.top (order_list q.order) _ (unique_shaped q.distinct _ (filter_opt_shaped q.having _ (project_shaped q.items _ (grouping_shaped q.group _ (filter_opt_shaped q.test a t))))) in
    record { rising = all.rising; columns = all.columns }

pub process_shaped : (call : Call) (a : Part) → IsShaped a → IsShaped (process_part call a)
process_shaped call a t = fresh_shaped a t (length call.output) (λ c. Process (call_at call (c + a.count))) (λ c. refl)

pub reduce_shaped : (on : List ℕ) (presort : Option (List (ℕ × Dir))) (call : Call) (a : Part) → IsShaped a → IsShaped (reduce_part on presort call a)
reduce_shaped on presort call a t = fresh_shaped a t (length call.output) (λ c. Reduce (call_at call (c + a.count)) (map (number a c) on) (order_at (number a c) presort)) (λ c. refl)

-- ---- sources, and two children

plain_columns : (name : ℕ → ℕ) (c n : ℕ) → range_with_len c n ≡ map (λ p. c + p) (range_with_len 0 n)
plain_columns name c n = let e : c + 0 ≡ c = omega arith in sym (range_shift c 0 n ∙ ap (λ i. range_with_len i n) e)

pub nothing_shaped : IsShaped nothing
nothing_shaped = record { rising = omega arith; columns = λ name s c l. refl }

pub scanned_shaped : (d : Stream) → IsShaped (scanned d)
scanned_shaped d = record { rising = rising_range 0 (length d.schema) (length d.schema) (omega arith); columns = λ name s c l. plain_columns name c (length d.schema) }

pub referred_shaped : (k : ℕ) (b : Part) → IsShaped (referred k b)
referred_shaped k b = record { rising = rising_range 0 (length b.cols) (length b.cols) (omega arith); columns = λ name s c l. plain_columns name c (length b.cols) }

-- two parts, the right one behind the left one, under one node
abbrev pub beside : Part → Part → List ℕ → ℕ → (ℕ → LogicOp) → Part
beside a b cols count op = record {
  cols = cols;
  count = count;
  order = None;
  stored = None;
  scans = a.scans ++ b.scans;
  refs = a.refs ++ b.refs;
  tree = λ name s c. two (op c) (a.tree name s c) (b.tree name (s + length a.scans) (c + a.count));
}

beside_shaped : (a b : Part) → IsShaped a → IsShaped b → (cols : List ℕ) (count : ℕ) (op : ℕ → LogicOp) → a.count + b.count ≤ count → IsRising 0 cols count
    → ((c : ℕ) → c + count ≤ 128 → two_columns (op c) (cols_at a c) (cols_at b (c + a.count)) ≡ map (λ p. c + p) cols) → IsShaped (beside a b cols count op)
beside_shaped a b t u cols count op more rising columns = record {
  rising = rising;
  columns = λ name s c l. ap₂ (two_columns (op c)) (t.columns name s c (omega arith)) (u.columns name (s + length a.scans) (c + a.count) (omega arith)) ∙ columns c l;
}

pub left_rises : (a : Part) → IsShaped a → (c : ℕ) → IsRising 0 (cols_at a c) (c + a.count)
left_rises a t c = rising_weaken 0 (c + 0) _ _ (omega arith) (rising_shift c 0 a.count a.cols t.rising)

pub right_rises : (a : Part) → IsShaped a → (c : ℕ) → IsRising c (cols_at a c) (c + a.count)
right_rises a t c = rising_weaken c (c + 0) _ _ (omega arith) (rising_shift c 0 a.count a.cols t.rising)

pub joined_shaped : (on : List (ℕ × ℕ)) (a b : Part) → IsShaped a → IsShaped b → IsShaped (joined_part on a b)
joined_shaped on a b t u =
    beside_shaped a b t u (a.cols ++ map (λ p. a.count + p) b.cols) (a.count + b.count) (join_on a b on) (omega arith)
    (rising_append 0 a.count _ _ _ t.rising (subst (λ (n : ℕ). IsRising n (map (λ p. a.count + p) b.cols) (a.count + b.count)) (omega arith) (rising_shift a.count 0 b.count b.cols u.rising)))
    (λ c l.
    union_append (c + a.count + b.count) (cols_at a c) (cols_at b (c + a.count)) (rising_append 0 (c + a.count) _ _ _ (left_rises a t c) (right_rises b u (c + a.count))) (omega arith)
    ∙ ap (λ x. cols_at a c ++ x) (again c)
    ∙ sym (map_over_append (λ p. c + p) a.cols (map (λ p. a.count + p) b.cols)))
  where
    later : (s n i : ℕ) → s + n + i ≡ s + (n + i)
    later s n i = omega arith

    again : (c : ℕ) → cols_at b (c + a.count) ≡ map (λ p. c + p) (map (λ p. a.count + p) b.cols)
    again c = sym (map_twice (λ p. a.count + p) (λ p. c + p) (λ p. c + a.count + p) (λ p. sym (later c a.count p)) b.cols)

pub combine_shaped : (on : List (ℕ × ℕ)) (before after : Option (List (ℕ × Dir))) (call : Call) (a b : Part) → IsShaped a → IsShaped b → IsShaped (combine_part on before after call a b)
combine_shaped on before after call a b t u =
    beside_shaped a b t u (range_with_len (a.count + b.count) (length call.output)) (a.count + b.count + length call.output) (combine_on a b on before after call) (omega arith)
    (rising_weaken 0 (a.count + b.count) _ _ (omega arith) (rising_range (a.count + b.count) (length call.output) _ refl))
    (λ c l. let e : c + (a.count + b.count) ≡ c + a.count + b.count = omega arith in sym (range_shift c (a.count + b.count) (length call.output) ∙ ap (λ i. range_with_len i (length call.output)) e))
