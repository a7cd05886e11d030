-- Nodes over what stands.
use Rattle.std.proofs.Common.{◌≡◌, ℕ, suc, ◌+◌, ◌≤◌, true, List, [], ◌∷◌, ◌++◌, map, length, get_or, refl, sym, ap, ap₂, ◌∙◌, arith, Option, Some, None}
use Rattle.std.specs.Prelude.{option_map}
use Rattle.std.specs.List.{range_with_len}
use Rattle.std.proofs.lemmas.List.{length-map, length-append}
use Rattle.std.proofs.lemmas.List.FromFn.{length-range_with_len}
use Rattle.col_sets.specs.declared.dir.Dir.{Dir}
use Rattle.script_trees.specs.declared.agg.AggKind.{AggKind}
use Rattle.scope_expr.specs.declared.expr.Expr.{Expr}
use Rattle.scope_expr.specs.Moved.{moved}
use Rattle.logical_trees.specs.declared.args.GroupArgs.{GroupArgs}
use Rattle.logical_trees.specs.declared.logic_op.LogicOp.{LogicOp}
use Rattle.logical_trees.specs.declared.logic_op.LogicOp.TheVariants.{Scan, Ref, Filter, Project, Join, Group, Process, Reduce, Combine, Top}
use Rattle.logical_trees.specs.Tree.{tree_of, leaf, one, two}
use Rattle.column_ranks.specs.Rising.{IsRising}
use Rattle.column_ranks.specs.RisingLemmas.{rising_append, rising_range, rising_set}
use Rattle.column_ranks.specs.RowLemmas.{map_twice, map_over_append}
use Rattle.column_ranks.specs.Picked.{picked}
use Rattle.col_sets.specs.Sets.{IsColumnSet}
use Rattle.placed_trees.specs.declared.call.Call.{Call}
use Rattle.placed_trees.specs.declared.query.Grouping.{Grouping}
use Rattle.placed_trees.specs.declared.source.Stream.{Stream}
use Rattle.script_meaning.specs.Meaning.{places, key_places}
use Rattle.script_meaning.specs.Part.{Part, number, over, scanned, referred, join_on, joined_part, call_at, order_at, process_part, reduce_part, combine_on, combine_part, filter_part, numbered, listed, grouping_opt, project_part, unique_opt, first_opt}
use Rattle.script_meaning.specs.Placed.{IsBelow, AreBelow, AreArgsBelow, ArePlaces, IsOrderBelow, IsPresortBelow, ArePairs}
use Rattle.script_meaning.proofs.Shaped.{range_shift, rising_weaken, keys_ascend}
use Rattle.script_meaning.proofs.Named.{rising_places}
use Rattle.script_nodes.specs.declared.made.Made.{Made}
use Rattle.script_nodes.specs.Made.{IsMade}
use Rattle.script_nodes.specs.Over.{grouped_width}
use Rattle.script_nodes.specs.Steps.{column_at, IsNode, IsStep, IsStepOfTwo}
use Rattle.script_nodes.proofs.Places.{all_places}
use Rattle.script_nodes.proofs.Agree.{moved_same, all_same, aggs_same, places_same, listed_same, order_same, presort_same, pairs_same, in_width, in_place}

more_zero : (n : ℕ) → n ≡ n + 0
more_zero n = omega arith

-- ---- nodes without sources

plain_range : (c n : ℕ) → range_with_len c n ≡ map (λ p. c + p) (range_with_len 0 n)
plain_range c n = let e : c + 0 ≡ c = omega arith in sym (range_shift c 0 n ∙ ap (λ i. range_with_len i n) e)

pub scan_made : (name : ℕ → ℕ) (d : Stream) (scan next : ℕ) (m : Made) → IsNode (leaf (Scan scan (range_with_len next (length d.schema)))) (range_with_len next (length d.schema)) (next + length d.schema) m
    → IsMade name scan next (scanned d) m
scan_made name d scan next m n = record { tree = n.tree; cols = n.cols ∙ plain_range next (length d.schema); next = n.next }

pub ref_made : (name : ℕ → ℕ) (shared width next k s : ℕ) (b : Part) (m : Made) → IsNode (leaf (Ref shared (range_with_len next width))) (range_with_len next width) (next + width) m
    → name k ≡ shared → length b.cols ≡ width → IsMade name s next (referred k b) m
ref_made name shared width next k s b m n named wide = record {
  tree = n.tree ∙ ap₂ (λ i w. leaf (Ref i (range_with_len next w))) (sym named) (sym wide);
  cols = n.cols ∙ ap (range_with_len next) (sym wide) ∙ plain_range next (length b.cols);
  next = n.next ∙ ap (λ w. next + w) (sym wide);
}

-- ---- nodes over one

-- a node that keeps the columns
same_step : (op_at : Part → ℕ → LogicOp) (op : LogicOp) (old new : Made) → IsNode (one op (tree_of old.tree)) old.cols.items old.next new
    → ((name : ℕ → ℕ) (s c : ℕ) (p : Part) → IsMade name s c p old → op ≡ op_at p c) → IsStep (λ p. over p p.cols p.count (op_at p)) (length old.cols.items) 0 old new
same_step op_at op old new n same = record {
  turns = λ name s c p h. record { tree = n.tree ∙ ap₂ (λ o t. one o t) (same name s c p h) h.tree; cols = n.cols ∙ h.cols; next = n.next ∙ h.next };
  width = ap length n.cols;
  next = n.next ∙ more_zero old.next;
}

-- a node that numbers columns
fresh_cols : (name : ℕ → ℕ) (s c : ℕ) (p : Part) (old : Made) (n : ℕ) → IsMade name s c p old → range_with_len old.next n ≡ map (λ q. c + q) (range_with_len p.count n)
fresh_cols name s c p old n h = ap (λ i. range_with_len i n) h.next ∙ sym (range_shift c p.count n)

fresh_step : (op_at : Part → ℕ → LogicOp) (op : LogicOp) (n : ℕ) (old new : Made) → IsNode (one op (tree_of old.tree)) (range_with_len old.next n) (old.next + n) new
    → ((name : ℕ → ℕ) (s c : ℕ) (p : Part) → IsMade name s c p old → op ≡ op_at p c) → IsStep (λ p. over p (range_with_len p.count n) (p.count + n) (op_at p)) n n old new
fresh_step op_at op n old new node same = record {
  turns = λ name s c p h. record {
    tree = node.tree ∙ ap₂ (λ o t. one o t) (same name s c p h) h.tree;
    cols = node.cols ∙ fresh_cols name s c p old n h;
    next = let e : old.next ≡ c + p.count = h.next in let f : new.next ≡ old.next + n = node.next in omega arith;
  };
  width = ap length node.cols ∙ length-range_with_len old.next n;
  next = node.next;
}

pub filter_step : (e : Expr) (old new : Made) → IsBelow (length old.cols.items) e → IsNode (one (Filter (moved (column_at old.cols.items) e)) (tree_of old.tree)) old.cols.items old.next new
    → IsStep (filter_part e) (length old.cols.items) 0 old new
filter_step e old new below n =
    same_step (λ p c. Filter (moved (number p c) e)) (Filter (moved (column_at old.cols.items) e)) old new n
    (λ name s c p h. ap Filter (moved_same (column_at old.cols.items) (number p c) (length old.cols.items) (in_place name s c p old h) e below))

pub project_step : (es : List Expr) (old new : Made) → AreBelow (length old.cols.items) es
    → IsNode (one (Project (map (moved (column_at old.cols.items)) es) (range_with_len old.next (length es))) (tree_of old.tree)) (range_with_len old.next (length es)) (old.next + length es) new
    → IsStep (project_part es) (length es) (length es) old new
project_step es old new below n =
    fresh_step (λ p c. Project (map (moved (number p c)) es) (range_with_len (c + p.count) (length es))) _ (length es) old new n
    (λ name s c p h. ap₂ Project (all_same (column_at old.cols.items) (number p c) (length old.cols.items) (in_place name s c p old h) es below) (ap (λ i. range_with_len i (length es)) h.next))

pub process_step : (call : Call) (old new : Made) → IsNode (one (Process (call_at call old.next)) (tree_of old.tree)) (range_with_len old.next (length call.output)) (old.next + length call.output) new
    → IsStep (process_part call) (length call.output) (length call.output) old new
process_step call old new n = fresh_step (λ p c. Process (call_at call (c + p.count))) _ (length call.output) old new n (λ name s c p h. ap (λ i. Process (call_at call i)) h.next)

pub reduce_step : (on : List ℕ) (presort : Option (List (ℕ × Dir))) (call : Call) (old new : Made) → ArePlaces (length old.cols.items) on → IsPresortBelow (length old.cols.items) presort
    → IsNode (one (Reduce (call_at call old.next) (map (column_at old.cols.items) on) (order_at (column_at old.cols.items) presort)) (tree_of old.tree))
    (range_with_len old.next (length call.output)) (old.next + length call.output) new
    → IsStep (reduce_part on presort call) (length call.output) (length call.output) old new
reduce_step on presort call old new there sorts n =
    fresh_step (λ p c. Reduce (call_at call (c + p.count)) (map (number p c) on) (order_at (number p c) presort)) _ (length call.output) old new n
    (λ name s c p h.
    ap (λ i. Reduce (call_at call i) (map (column_at old.cols.items) on) (order_at (column_at old.cols.items) presort)) h.next
    ∙ ap₂ (λ k o. Reduce (call_at call (c + p.count)) k o)
    (places_same (column_at old.cols.items) (number p c) (length old.cols.items) (in_place name s c p old h) on there)
    (presort_same (column_at old.cols.items) (number p c) (length old.cols.items) (in_place name s c p old h) presort sorts))

pub first_step : (n : ℕ) (order : List (ℕ × Dir)) (old new : Made) → IsOrderBelow (length old.cols.items) order
    → IsNode (one (Top (record { n = n; order = map {B = ℕ × Dir} (λ k. (column_at old.cols.items k.0, k.1)) order })) (tree_of old.tree)) old.cols.items old.next new
    → IsStep (first_opt (Some n) order) (length old.cols.items) 0 old new
first_step n order old new there node =
    same_step (λ p c. Top (record { n = n; order = map {B = ℕ × Dir} (λ k. (number p c k.0, k.1)) order })) _ old new node
    (λ name s c p h. ap (λ o. Top (record { n = n; order = o })) (order_same (column_at old.cols.items) (number p c) (length old.cols.items) (in_place name s c p old h) order there))

-- ---- groups

key_cols : (name : ℕ → ℕ) (s c : ℕ) (p : Part) (old : Made) → IsMade name s c p old → (keys : List ℕ) → ArePlaces (length old.cols.items) keys
    → map (column_at old.cols.items) keys ≡ map (number p c) keys
key_cols name s c p old h keys there = places_same (column_at old.cols.items) (number p c) (length old.cols.items) (in_place name s c p old h) keys there

number_shift : (a : Part) (keys : List ℕ) (c : ℕ) → map (number a c) keys ≡ map (λ p. c + p) (map (number a 0) keys)
number_shift a keys c = sym (map_twice (number a 0) (λ p. c + p) (number a c) (λ p. ap (λ q. c + q) (zeroed (get_or a.cols p 128))) keys)
  where
    zeroed : (n : ℕ) → 0 + n ≡ n
    zeroed n = omega arith

pub numbered_many : (f : ℕ → ℕ) (e : ℕ) (aggs : List (AggKind × Option Expr)) → length (numbered f e aggs) ≡ length aggs
numbered_many f e [] = refl
numbered_many f e (g ∷ aggs) = ap suc (numbered_many f (e + 1) aggs)

pub group_step : (g : Grouping) (old new : Made) → ArePlaces (length old.cols.items) g.written → AreArgsBelow (length old.cols.items) g.aggs
    → IsNode (one (Group (record {
      written = option_map (map (column_at old.cols.items)) (listed g.written);
      keys = map (column_at old.cols.items) (key_places (length old.cols.items) g.written);
      aggs = numbered (column_at old.cols.items) old.next g.aggs;
    })) (tree_of old.tree))
    (map (column_at old.cols.items) (key_places (length old.cols.items) g.written) ++ range_with_len old.next (length g.aggs)) (old.next + length g.aggs) new
    → IsStep (grouping_opt (Some g)) (grouped_width (length old.cols.items) (Some g)) (length g.aggs) old new
group_step g old new there below node = record {
  turns = λ name s c p h.
      let wide : length old.cols.items ≡ length p.cols = in_width name s c p old h in
      let keys : map (column_at old.cols.items) (key_places (length old.cols.items) g.written) ≡ map (number p c) (key_places (length p.cols) g.written) =
      key_cols name s c p old h (key_places (length old.cols.items) g.written) (rising_places 0 (length old.cols.items) _ (keys_ascend (length old.cols.items) g.written))
      ∙ ap (λ w. map (number p c) (key_places w g.written)) wide in
      record {
        tree = node.tree
            ∙ ap₂ (λ o t. one o t)
            (ap₂ (λ w k. Group (record { written = w; keys = k; aggs = numbered (column_at old.cols.items) old.next g.aggs }))
            (listed_same (column_at old.cols.items) (number p c) (length old.cols.items) (in_place name s c p old h) g.written there) keys
            ∙ ap (λ a. Group (record { written = option_map (map (number p c)) (listed g.written); keys = map (number p c) (key_places (length p.cols) g.written); aggs = a }))
            (ap (λ i. numbered (column_at old.cols.items) i g.aggs) h.next
            ∙ aggs_same (column_at old.cols.items) (number p c) (length old.cols.items) (in_place name s c p old h) (c + p.count) g.aggs below))
            h.tree;
        cols = node.cols
            ∙ ap₂ (λ x y. x ++ y) (keys ∙ number_shift p (key_places (length p.cols) g.written) c) (fresh_cols name s c p old (length g.aggs) h)
            ∙ sym (map_over_append (λ q. c + q) (map (number p 0) (key_places (length p.cols) g.written)) (range_with_len p.count (length g.aggs)));
        next = let e : old.next ≡ c + p.count = h.next in let f : new.next ≡ old.next + length g.aggs = node.next in omega arith;
      };
  width =
      ap length node.cols ∙ length-append (map (column_at old.cols.items) (key_places (length old.cols.items) g.written)) (range_with_len old.next (length g.aggs))
      ∙ ap₂ (λ x y. x + y) (length-map (key_places (length old.cols.items) g.written) (column_at old.cols.items)) (length-range_with_len old.next (length g.aggs));
  next = node.next;
}

-- the keys of a Group ascend
pub keys_rise : (cols written : List ℕ) (next : ℕ) → IsRising 0 cols next → IsRising 0 (map (column_at cols) (key_places (length cols) written)) next
keys_rise cols written next h = picked 0 next cols 128 h (key_places (length cols) written) (keys_ascend (length cols) written)

nothing_more : (s : List ℕ) → s ++ [] ≡ s
nothing_more [] = refl
nothing_more (c ∷ s) = ap (λ l. c ∷ l) (nothing_more s)

pub unique_step : (old new : Made) → IsNode (one (Group (record { written = None; keys = old.cols.items; aggs = [] })) (tree_of old.tree)) old.cols.items old.next new
    → IsStep (unique_opt true) (length old.cols.items) 0 old new
unique_step old new node = record {
  turns = λ name s c p h.
      let all : old.cols.items ≡ map (number p c) (places (length p.cols)) =
      h.cols ∙ ap (map (λ q. c + q)) (sym (all_places p.cols)) ∙ map_twice (column_at p.cols) (λ q. c + q) (number p c) (λ q. refl) (places (length p.cols)) in
      record {
        tree = node.tree ∙ ap₂ (λ k t. one (Group (record { written = None; keys = k; aggs = [] })) t) all h.tree;
        cols = node.cols ∙ all ∙ number_shift p (places (length p.cols)) c ∙ ap (map (λ q. c + q)) (sym (nothing_more (map (number p 0) (places (length p.cols)))));
        next = let e : old.next ≡ c + p.count = h.next in let f : new.next ≡ old.next = node.next in omega arith;
      };
  width = ap length node.cols;
  next = node.next ∙ more_zero old.next;
}

-- ---- nodes over two

later_cols : (c n : ℕ) (s : List ℕ) → map (λ p. c + n + p) s ≡ map (λ p. c + p) (map (λ p. n + p) s)
later_cols c n s = sym (map_twice (λ p. n + p) (λ p. c + p) (λ p. c + n + p) (λ p. later p) s)
  where
    later : (p : ℕ) → c + (n + p) ≡ c + n + p
    later p = omega arith

pub join_step : (on : List (ℕ × ℕ)) (left right new : Made) → ArePairs (length left.cols.items) (length right.cols.items) on
    → IsNode (two (Join (record { items = map {B = ℕ × ℕ} (λ p. (column_at left.cols.items p.0, column_at right.cols.items p.1)) on })) (tree_of left.tree) (tree_of right.tree))
    (left.cols.items ++ right.cols.items) right.next new
    → IsStepOfTwo (joined_part on) (length left.cols.items + length right.cols.items) 0 left right new
join_step on left right new there node = record {
  turns = λ name s c a b h k. record {
    tree = node.tree
        ∙ ap (λ ps. two (Join (record { items = ps })) (tree_of left.tree) (tree_of right.tree))
        (pairs_same (column_at left.cols.items) (number a c) (column_at right.cols.items) (number b (c + a.count)) (length left.cols.items) (length right.cols.items)
        (in_place name s c a left h) (in_place name (s + length a.scans) (c + a.count) b right k) on there)
        ∙ ap₂ (λ t u. two (join_on a b on c) t u) h.tree k.tree;
    cols = node.cols ∙ ap₂ (λ x y. x ++ y) h.cols (k.cols ∙ later_cols c a.count b.cols) ∙ sym (map_over_append (λ p. c + p) a.cols (map (λ p. a.count + p) b.cols));
    next = let e : right.next ≡ c + a.count + b.count = k.next in let f : new.next ≡ right.next = node.next in omega arith;
  };
  width = ap length node.cols ∙ length-append left.cols.items right.cols.items;
  next = node.next ∙ more_zero right.next;
}

pub combine_step : (on : List (ℕ × ℕ)) (before after : Option (List (ℕ × Dir))) (call : Call) (left right new : Made) → ArePairs (length left.cols.items) (length right.cols.items) on
    → IsPresortBelow (length left.cols.items) before → IsPresortBelow (length right.cols.items) after
    → IsNode (two (Combine (call_at call right.next) (record { items = map {B = ℕ × ℕ} (λ p. (column_at left.cols.items p.0, column_at right.cols.items p.1)) on })
    (order_at (column_at left.cols.items) before) (order_at (column_at right.cols.items) after)) (tree_of left.tree) (tree_of right.tree))
    (range_with_len right.next (length call.output)) (right.next + length call.output) new
    → IsStepOfTwo (combine_part on before after call) (length call.output) (length call.output) left right new
combine_step on before after call left right new there sorts also node = record {
  turns = λ name s c a b h k. record {
    tree = node.tree
        ∙ ap (λ i. two (Combine (call_at call i) (record { items = map {B = ℕ × ℕ} (λ p. (column_at left.cols.items p.0, column_at right.cols.items p.1)) on })
        (order_at (column_at left.cols.items) before) (order_at (column_at right.cols.items) after)) (tree_of left.tree) (tree_of right.tree)) k.next
        ∙ ap (λ ps. two (Combine (call_at call (c + a.count + b.count)) (record { items = ps })
        (order_at (column_at left.cols.items) before) (order_at (column_at right.cols.items) after)) (tree_of left.tree) (tree_of right.tree))
        (pairs_same (column_at left.cols.items) (number a c) (column_at right.cols.items) (number b (c + a.count)) (length left.cols.items) (length right.cols.items)
        (in_place name s c a left h) (in_place name (s + length a.scans) (c + a.count) b right k) on there)
        ∙ ap₂ (λ x y. two (Combine (call_at call (c + a.count + b.count)) (record { items = map {B = ℕ × ℕ} (λ p. (number a c p.0, number b (c + a.count) p.1)) on }) x y) (tree_of left.tree) (tree_of right.tree))
        (presort_same (column_at left.cols.items) (number a c) (length left.cols.items) (in_place name s c a left h) before sorts)
        (presort_same (column_at right.cols.items) (number b (c + a.count)) (length right.cols.items) (in_place name (s + length a.scans) (c + a.count) b right k) after also)
        ∙ ap₂ (λ t u. two (combine_on a b on before after call c) t u) h.tree k.tree;
    cols = node.cols ∙ ap (λ i. range_with_len i (length call.output)) (k.next ∙ whole c a.count b.count) ∙ sym (range_shift c (a.count + b.count) (length call.output));
    next = let e : right.next ≡ c + a.count + b.count = k.next in let f : new.next ≡ right.next + length call.output = node.next in omega arith;
  };
  width = ap length node.cols ∙ length-range_with_len right.next (length call.output);
  next = node.next;
}
  where
    whole : (c m n : ℕ) → c + m + n ≡ c + (m + n)
    whole c m n = omega arith

-- ---- columns ascend

pub range_rises : (a n : ℕ) → IsRising 0 (range_with_len a n) (a + n)
range_rises a n = rising_weaken 0 a _ _ (omega arith) (rising_range a n _ refl)

pub group_rises : (keys : List ℕ) (a n : ℕ) → IsRising 0 keys a → IsRising 0 (keys ++ range_with_len a n) (a + n)
group_rises keys a n h = rising_append 0 a (a + n) keys (range_with_len a n) h (rising_range a n _ refl)

pub rises_set : (b : ℕ) (s : List ℕ) → IsRising 0 s b → b ≤ 128 → IsColumnSet s
rises_set b s h l = rising_set b s h l

-- ---- what is carried across a call that may find no memory

pub same_node : (op other : LogicOp) (made carried : Made) (m : Made) → carried ≡ made → other ≡ op → IsNode (one other (tree_of carried.tree)) carried.cols.items carried.next m
    → IsNode (one op (tree_of made.tree)) made.cols.items made.next m
same_node op other made carried m e o n = record {
  tree = n.tree ∙ ap₂ (λ x y. one x (tree_of y.tree)) o e;
  cols = n.cols ∙ ap (λ y. y.cols.items) e;
  next = n.next ∙ ap (λ y. y.next) e;
}

pub fresh_node : (op other : LogicOp) (n count : ℕ) (made carried : Made) (m : Made) → carried ≡ made → count ≡ n → other ≡ op
    → IsNode (one other (tree_of carried.tree)) (range_with_len carried.next count) (carried.next + count) m
    → IsNode (one op (tree_of made.tree)) (range_with_len made.next n) (made.next + n) m
fresh_node op other n count made carried m e many o node = record {
  tree = node.tree ∙ ap₂ (λ x y. one x (tree_of y.tree)) o e;
  cols = node.cols ∙ ap₂ (λ y k. range_with_len y.next k) e many;
  next = node.next ∙ ap₂ (λ y k. y.next + k) e many;
}

pub fresh_node_of_two : (op other : LogicOp) (n count : ℕ) (a carried b behind : Made) (m : Made) → carried ≡ a → behind ≡ b → count ≡ n → other ≡ op
    → IsNode (two other (tree_of carried.tree) (tree_of behind.tree)) (range_with_len behind.next count) (behind.next + count) m
    → IsNode (two op (tree_of a.tree) (tree_of b.tree)) (range_with_len b.next n) (b.next + n) m
fresh_node_of_two op other n count a carried b behind m e f many o node = record {
  tree = node.tree ∙ ap₂ (λ x y. two x (tree_of carried.tree) (tree_of y.tree)) o f ∙ ap (λ x. two op (tree_of x.tree) (tree_of b.tree)) e;
  cols = node.cols ∙ ap₂ (λ y k. range_with_len y.next k) f many;
  next = node.next ∙ ap₂ (λ y k. y.next + k) f many;
}

pub keyed_node : (args other : GroupArgs) (keys more : List ℕ) (n : ℕ) (made carried : Made) (m : Made) → carried ≡ made → length args.aggs ≡ n → other ≡ args → more ≡ keys
    → IsNode (one (Group other) (tree_of carried.tree)) (more ++ range_with_len carried.next (length other.aggs)) (carried.next + length other.aggs) m
    → IsNode (one (Group args) (tree_of made.tree)) (keys ++ range_with_len made.next n) (made.next + n) m
keyed_node args other keys more n made carried m e many o k node =
    let count : length other.aggs ≡ n = ap (λ (x : GroupArgs). length x.aggs) o ∙ many in
    record {
      tree = node.tree ∙ ap₂ (λ x y. one (Group x) (tree_of y.tree)) o e;
      cols = node.cols ∙ ap₂ (λ x y. x ++ y) k (ap₂ (λ y i. range_with_len y.next i) e count);
      next = node.next ∙ ap₂ (λ y i. y.next + i) e count;
    }
