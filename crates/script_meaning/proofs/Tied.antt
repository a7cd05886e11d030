-- What a part gives is what the statement means, wherever the part stands.
use Rattle.std.proofs.Common.{◌≡◌, ℕ, ◌+◌, ◌≤◌, Bool, true, false, List, [], ◌++◌, map, filter, flat_map, length, take, get_or, refl, sym, ap, ap₂, ◌∙◌, arith, Option, Some, None, subst, slice_get, IsPermutation}
use Rattle.std.specs.List.{range_with_len}
use Rattle.std.specs.Prelude.{option_map}
use Rattle.std.proofs.lemmas.List.{length-map, length-append}
use Rattle.std.proofs.lemmas.List.FromFn.{length-range_with_len}
use Rattle.std.proofs.lemmas.List.Sorted.{IsPermutation-refl, IsPermutation-trans}
use Rattle.scope_value.specs.Keys.{keys_cmp}
use Rattle.scope_value.specs.Sorted.{sorted}
use Rattle.col_sets.specs.declared.dir.Dir.{Dir}
use Rattle.col_sets.specs.Sets.{has, rank}
use Rattle.col_sets.specs.Tests.{or_left, to_test}
use Rattle.user_ops.specs.Told.{Operators, combines_at}
use Rattle.script_trees.specs.declared.agg.AggKind.{AggKind}
use Rattle.scope_expr.specs.declared.expr.Expr.{Expr}
use Rattle.logical_trees.specs.declared.logic_op.LogicOp.{LogicOp}
use Rattle.logical_trees.specs.declared.logic_op.LogicOp.TheVariants.{Filter, Project, Group, Process, Reduce, Top}
use Rattle.logical_trees.specs.Tree.{columns_of}
use Rattle.logical_trees.specs.Rows.{Row, Bag, agree_on, merged}
use Rattle.logical_trees.specs.Meaning.{Sources, bag_at, GivesOne, GivesTwo, StandsFor}
use Rattle.scope_expr.specs.Moved.{HasRanks, moved}
use Rattle.column_ranks.specs.Rising.{IsRising}
use Rattle.column_ranks.specs.RisingLemmas.{rising_range, rank_at, rank_shift}
use Rattle.list_lemmas.specs.Bags.{same_permuted}
use Rattle.column_ranks.specs.RowLemmas.{holds_moved, projected_moved, items_moved, agree_moved, values, merged_values}
use Rattle.outer_joins.specs.declared.side.Side.{Side}
use Rattle.placed_trees.specs.declared.call.Call.{Call}
use Rattle.placed_trees.specs.declared.query.Grouping.{Grouping}
use Rattle.placed_trees.specs.declared.query.Query.{Query}
use Rattle.placed_trees.specs.declared.source.StoredPlaces.{StoredPlaces}
use Rattle.placed_trees.specs.declared.source.Stream.{Stream}
use Rattle.script_meaning.specs.Meaning.{places, Table, table, no_table, where_rows, where_opt, join_rows, key_places, group_rows, group_opt, item_rows, distinct_opt, order_list, top_opt, outer_rows, process_rows, reduce_rows, combine_rows, query_rows, with_order, unless_stored}
use Rattle.script_meaning.specs.Part.{Part, cols_at, number, nothing, scanned, referred, over, join_on, joined_part, call_at, order_at, process_part, reduce_part, combine_on, combine_part, filter_opt, numbered, group_part, listed, grouping_opt, project_part, unique_opt, first_opt, query_part, stored_part}
use Rattle.script_meaning.specs.Laws.{IsOuterCall}
use Rattle.script_meaning.proofs.Shaped.{get_left, get_right, has_left, has_right, IsShaped, filter_opt_shaped, project_shaped, first_shaped, keys_rising, group_shaped, keys_ascend, query_shaped, process_shaped, reduce_shaped, nothing_shaped, scanned_shaped, referred_shaped, beside, left_rises, right_rises, joined_shaped, combine_shaped}
use Rattle.script_meaning.proofs.Grouped.{group_moved}
use Rattle.script_meaning.proofs.Moving.{reduced_moved, combined_moved}
use Rattle.script_meaning.proofs.Outer.{outer_is}

module _ (ops : Operators) (input : Stream → Bag) (rows_of : ℕ → Bag) where
  -- the sources have what the part draws on where it stands at s and c, and its columns are below 128
  pub record Reads (a : Part) (name : ℕ → ℕ) (s c : ℕ) (from : Sources) : Type 0 where
    pub scans : (i : ℕ) (d : Stream) → slice_get a.scans i ≡ Some d → bag_at from.scans (s + i) ≡ input d
    pub refs : (k : ℕ) → has a.refs k ≡ true → bag_at from.shared (name k) ≡ rows_of k
    pub room : c + a.count ≤ 128

  -- the part gives the table, wherever it stands
  pub record Tied (a : Part) (A : Table) : Type 0 where
    pub width : length a.cols ≡ A.width
    pub order : a.order ≡ A.order
    pub shape : IsShaped a
    pub rows : (name : ℕ → ℕ) (s c : ℕ) (from : Sources) → Reads a name s c from → StandsFor ops from (a.tree name s c) A.rows

  pub ranks : (a : Part) (A : Table) → Tied a A → (c : ℕ) → c + a.count ≤ 128 → HasRanks (number a c) (places A.width) (cols_at a c)
  ranks a A t c l p =
      let small : a.count ≤ 128 = omega arith in
      let e : 0 + p ≡ p = omega arith in
      rank_shift c a.cols (get_or a.cols p 128) ∙ rank_at 0 a.count a.cols 0 p t.shape.rising small ∙ ap₂ (λ n q. rank (places n) q) t.width e

  -- ---- one node

  over_tied : (a : Part) (A : Table) → Tied a A → (cols : List ℕ) (count : ℕ) (op : ℕ → LogicOp) (B : Table)
      → a.count ≤ count → length cols ≡ B.width → None ≡ B.order → IsShaped (over a cols count op)
      → ((c : ℕ) → c + count ≤ 128 → HasRanks (number a c) (places A.width) (cols_at a c) → GivesOne ops (op c) (cols_at a c) A.rows B.rows)
      → Tied (over a cols count op) B
  over_tied a A t cols count op B more width order shape gives = record {
    width = width;
    order = order;
    shape = shape;
    rows = λ name s c from r.
        let room : c + count ≤ 128 = r.room in
        let small : c + a.count ≤ 128 = omega arith in (
          A.rows,
          t.rows name s c from (record { scans = r.scans; refs = r.refs; room = small }),
          subst (λ (cs : List ℕ). GivesOne ops (op c) cs A.rows B.rows) (sym (t.shape.columns name s c small)) (gives c room (ranks a A t c small)),
        );
  }

  filter_opt_tied : (o : Option Expr) (a : Part) (A : Table) → Tied a A → Tied (filter_opt o a) (where_opt o A)
  filter_opt_tied None a A t = record {
    width = t.width;
    order = refl;
    shape = filter_opt_shaped None a t.shape;
    rows = λ name s c from r. t.rows name s c from (record { scans = r.scans; refs = r.refs; room = r.room });
  }
  filter_opt_tied (Some e) a A t =
      over_tied a A t a.cols a.count (λ c. Filter (moved (number a c) e)) (where_rows e A) (omega arith) t.width refl (filter_opt_shaped (Some e) a t.shape)
      (λ c l h. same_permuted _ _ (λ i. filter (λ r. holds_moved (number a c) (places A.width) (cols_at a c) h e r i) A.rows))

  pub stored_tied : (stored : Option StoredPlaces) (a : Part) (A : Table) → Tied a A → Tied (stored_part stored a) (with_order (unless_stored stored A.order) A)
  stored_tied stored a A t = record {
    width = t.width;
    order = ap (unless_stored stored) t.order;
    shape = record { rising = t.shape.rising; columns = t.shape.columns };
    rows = λ name s c from r. t.rows name s c from (record { scans = r.scans; refs = r.refs; room = r.room });
  }

  project_tied : (es : List Expr) (a : Part) (A : Table) → Tied a A → Tied (project_part es a) (item_rows es A)
  project_tied es a A t =
      over_tied a A t (range_with_len a.count (length es)) (a.count + length es)
      (λ c. Project (map (moved (number a c)) es) (range_with_len (c + a.count) (length es))) (item_rows es A) (omega arith)
      (length-range_with_len a.count (length es)) refl (project_shaped es a t.shape)
      (λ c l h. same_permuted _ _ (λ i. map (λ r. projected_moved (number a c) (places A.width) (cols_at a c) h es r i) A.rows))

  top_tied : (o : Option ℕ) (order : List (ℕ × Dir)) (a : Part) (A : Table) → Tied a A → Tied (first_opt o order a) (top_opt o order A)
  top_tied None order a A t = t
  top_tied (Some n) order a A t =
      over_tied a A t a.cols a.count (λ c. Top (record { n = n; order = map (λ k. (number a c k.0, k.1)) order })) (top_opt (Some n) order A) (omega arith) t.width refl
      (first_shaped (Some n) order a t.shape)
      (λ c l h. same_permuted _ _ (ap (λ its. take n (sorted (keys_cmp its true) A.rows)) (items_moved (number a c) (places A.width) (cols_at a c) h order)))

  -- ---- groups

  group_tied : (written : Option (List ℕ)) (keys : List ℕ) (aggs : List (AggKind × Option Expr)) (a : Part) (A : Table) → Tied a A → IsRising 0 keys (length a.cols)
      → Tied (group_part written keys aggs a) (group_rows keys aggs A)
  group_tied written keys aggs a A t k =
      over_tied a A t (map (number a 0) keys ++ range_with_len a.count (length aggs)) (a.count + length aggs)
      (λ c. Group (record { written = option_map (map (number a c)) written; keys = map (number a c) keys; aggs = numbered (number a c) (c + a.count) aggs }))
      (group_rows keys aggs A) (omega arith)
      (length-append (map (number a 0) keys) (range_with_len a.count (length aggs)) ∙ ap₂ (λ x y. x + y) (length-map keys (number a 0)) (length-range_with_len a.count (length aggs)))
      refl (group_shaped written keys aggs a t.shape k)
      (λ c l h. same_permuted _ _ (group_moved (number a c) A.width (cols_at a c) h (option_map (map (number a c)) written) keys aggs (c + a.count) (c + a.count) A.rows
      (keys_rising a t.shape keys k c) (omega arith) (omega arith)))

  grouping_tied : (o : Option Grouping) (a : Part) (A : Table) → Tied a A → Tied (grouping_opt o a) (group_opt o A)
  grouping_tied None a A t = t
  grouping_tied (Some g) a A t =
      subst (λ (n : ℕ). Tied (grouping_opt (Some g) a) (group_rows (key_places n g.written) g.aggs A)) t.width
      (group_tied (listed g.written) (key_places (length a.cols) g.written) g.aggs a A t (keys_ascend (length a.cols) g.written))

  unique_tied : (b : Bool) (a : Part) (A : Table) → Tied a A → Tied (unique_opt b a) (distinct_opt b A)
  unique_tied false a A t = t
  unique_tied true a A t =
      subst (λ (n : ℕ). Tied (unique_opt true a) (group_rows (places n) [] A)) t.width
      (group_tied None (places (length a.cols)) [] a A t (rising_range 0 (length a.cols) (length a.cols) (omega arith)))

  pub query_tied : (q : Query) (a : Part) (A : Table) → Tied a A → Tied (query_part q a) (query_rows q A)
  query_tied q a A t =
      let all = top_tied q.top (order_list q.order) _ _ (unique_tied q.distinct _ _ (filter_opt_tied q.having _ _ (project_tied q.items _ _ (grouping_tied q.group _ _ (filter_opt_tied q.test a A t))))) in
      record {
        width = all.width;
        order = refl;
        shape = query_shaped q a t.shape;
        rows = λ name s c from r. all.rows name s c from (record { scans = r.scans; refs = r.refs; room = r.room });
      }

  -- ---- sources

  pub nothing_tied : Tied nothing no_table
  nothing_tied = record {
    width = refl;
    order = refl;
    shape = nothing_shaped;
    rows = λ name s c from r. (bag_at from.shared 0, IsPermutation-refl _, IsPermutation-refl _);
  }

  pub scanned_tied : (d : Stream) → Tied (scanned d) (table (length d.schema) (input d))
  scanned_tied d = record {
    width = length-range_with_len 0 (length d.schema);
    order = refl;
    shape = scanned_shaped d;
    rows = λ name s c from r. let e : s + 0 ≡ s = omega arith in same_permuted _ _ (sym (ap (bag_at from.scans) e) ∙ r.scans 0 d refl);
  }

  pub referred_tied : (k : ℕ) (b : Part) (A : Table) → Tied b A → rows_of k ≡ A.rows → Tied (referred k b) A
  referred_tied k b A t known = record {
    width = length-range_with_len 0 (length b.cols) ∙ t.width;
    order = t.order;
    shape = referred_shaped k b;
    rows = λ name s c from r. same_permuted _ _ (r.refs k (or_left _ _ (to_test k k refl)) ∙ known);
  }

  -- two parts, the right one behind the left one, under one node
  beside_tied : (a b : Part) (A B : Table) → Tied a A → Tied b B → (cols : List ℕ) (count : ℕ) (op : ℕ → LogicOp) (C : Table)
      → a.count + b.count ≤ count → length cols ≡ C.width → None ≡ C.order → IsShaped (beside a b cols count op)
      → ((c : ℕ) → c + count ≤ 128 → HasRanks (number a c) (places A.width) (cols_at a c) → HasRanks (number b (c + a.count)) (places B.width) (cols_at b (c + a.count))
      → GivesTwo ops (op c) (cols_at a c) (cols_at b (c + a.count)) A.rows B.rows C.rows)
      → Tied (beside a b cols count op) C
  beside_tied a b A B t u cols count op C more width order shape gives = record {
    width = width;
    order = order;
    shape = shape;
    rows = λ name s c from r.
        let room : c + count ≤ 128 = r.room in
        let in_left : c + a.count ≤ 128 = omega arith in
        let in_right : c + a.count + b.count ≤ 128 = omega arith in
        let there : StandsFor ops from (a.tree name s c) A.rows =
        t.rows name s c from (record { scans = λ i d e. r.scans i d (get_left a.scans b.scans i d e); refs = λ k h. r.refs k (has_left a.refs b.refs k h); room = in_left }) in
        let beside : StandsFor ops from (b.tree name (s + length a.scans) (c + a.count)) B.rows =
        u.rows name (s + length a.scans) (c + a.count) from (record {
          scans = λ i d e. ap (bag_at from.scans) (later s (length a.scans) i) ∙ r.scans (length a.scans + i) d (get_right a.scans b.scans i ∙ e);
          refs = λ k h. r.refs k (has_right a.refs b.refs k h);
          room = in_right;
        }) in (
          A.rows,
          B.rows,
          there,
          beside,
          subst (λ (cs : List ℕ). GivesTwo ops (op c) cs (columns_of (b.tree name (s + length a.scans) (c + a.count))) A.rows B.rows C.rows) (sym (t.shape.columns name s c in_left))
              (subst (λ (cs : List ℕ). GivesTwo ops (op c) (cols_at a c) cs A.rows B.rows C.rows) (sym (u.shape.columns name (s + length a.scans) (c + a.count) in_right))
              (gives c room (ranks a A t c in_left) (ranks b B u (c + a.count) in_right))),
        );
  }
    where
      later : (s n i : ℕ) → s + n + i ≡ s + (n + i)
      later s n i = omega arith

  pub joined_tied : (on : List (ℕ × ℕ)) (a b : Part) (A B : Table) → Tied a A → Tied b B → Tied (joined_part on a b) (join_rows on A B)
  joined_tied on a b A B t u =
      beside_tied a b A B t u (a.cols ++ map (λ p. a.count + p) b.cols) (a.count + b.count) (join_on a b on) (join_rows on A B) (omega arith)
      (length-append a.cols (map (λ p. a.count + p) b.cols) ∙ ap₂ (λ x y. x + y) t.width (length-map b.cols (λ p. a.count + p) ∙ u.width))
      refl (joined_shaped on a b t.shape u.shape)
      (λ c l h k. let in_right : c + a.count + b.count ≤ 128 = omega arith in same_permuted _ _ (λ i. flat_map (λ x. map (λ y. merge c in_right x y i) (filter (λ y. agrees c h k x y i) B.rows)) A.rows))
    where
      merge : (c : ℕ) → c + a.count + b.count ≤ 128 → (x y : Row) → merged (cols_at a c) (cols_at b (c + a.count)) x y ≡ values A.width x ++ values B.width y
      merge c l x y =
          merged_values (c + a.count) (c + a.count + b.count) (cols_at a c) (cols_at b (c + a.count)) x y (left_rises a t.shape c) (right_rises b u.shape (c + a.count)) l
          ∙ ap₂ (λ m n. values m x ++ values n y) (length-map a.cols (λ p. c + p) ∙ t.width) (length-map b.cols (λ p. c + a.count + p) ∙ u.width)

      agrees : (c : ℕ) → HasRanks (number a c) (places A.width) (cols_at a c) → HasRanks (number b (c + a.count)) (places B.width) (cols_at b (c + a.count)) → (x y : Row)
          → agree_on (map (λ p. (number a c p.0, number b (c + a.count) p.1)) on) (cols_at a c) (cols_at b (c + a.count)) x y ≡ agree_on on (places A.width) (places B.width) x y
      agrees c h k x y = agree_moved (number a c) (number b (c + a.count)) (places A.width) (cols_at a c) (places B.width) (cols_at b (c + a.count)) h k on x y

  -- ---- user operators

  pub process_tied : (call : Call) (a : Part) (A : Table) → Tied a A → Tied (process_part call a) (process_rows ops call A)
  process_tied call a A t =
      over_tied a A t (range_with_len a.count (length call.output)) (a.count + length call.output) (λ c. Process (call_at call (c + a.count))) (process_rows ops call A) (omega arith)
      (length-range_with_len a.count (length call.output)) refl (process_shaped call a t.shape)
      (λ c l h. IsPermutation-refl _)

  pub reduce_tied : (on : List ℕ) (presort : Option (List (ℕ × Dir))) (call : Call) (a : Part) (A : Table) → Tied a A → Tied (reduce_part on presort call a) (reduce_rows ops on presort call A)
  reduce_tied on presort call a A t =
      over_tied a A t (range_with_len a.count (length call.output)) (a.count + length call.output)
      (λ c. Reduce (call_at call (c + a.count)) (map (number a c) on) (order_at (number a c) presort)) (reduce_rows ops on presort call A) (omega arith)
      (length-range_with_len a.count (length call.output)) refl (reduce_shaped on presort call a t.shape)
      (λ c l h. same_permuted _ _ (reduced_moved (number a c) (places A.width) (cols_at a c) h ops (call_at call (c + a.count)) on presort A.rows))

  -- a Combine gives the rows of any table that its rows are, as a bag
  combined_tied : (on : List (ℕ × ℕ)) (before after : Option (List (ℕ × Dir))) (call : Call) (a b : Part) (A B C : Table) → Tied a A → Tied b B → length call.output ≡ C.width → None ≡ C.order
      → IsPermutation (combine_rows ops on before after call A B).rows C.rows → Tied (combine_part on before after call a b) C
  combined_tied on before after call a b A B C t u width order same =
      beside_tied a b A B t u (range_with_len (a.count + b.count) (length call.output)) (a.count + b.count + length call.output) (combine_on a b on before after call) C (omega arith)
      (length-range_with_len (a.count + b.count) (length call.output) ∙ width) order (combine_shaped on before after call a b t.shape u.shape)
      (λ c l h k. IsPermutation-trans _ _ _
      (same_permuted _ _ (combined_moved (number a c) (number b (c + a.count)) (places A.width) (cols_at a c) (places B.width) (cols_at b (c + a.count)) h k on ops (call_at call (c + a.count + b.count)) before after A.rows B.rows))
      same)

  pub combine_tied : (on : List (ℕ × ℕ)) (before after : Option (List (ℕ × Dir))) (call : Call) (a b : Part) (A B : Table) → Tied a A → Tied b B
      → Tied (combine_part on before after call a b) (combine_rows ops on before after call A B)
  combine_tied on before after call a b A B t u = combined_tied on before after call a b A B (combine_rows ops on before after call A B) t u refl refl (IsPermutation-refl _)

  pub outer_tied : (side : Side) (on : List (ℕ × ℕ)) (call : Call) (a b : Part) (A B : Table) → Tied a A → Tied b B → IsOuterCall ops side call A.width B.width
      → Tied (combine_part on None None call a b) (outer_rows side on A B)
  outer_tied side on call a b A B t u told =
      combined_tied on None None call a b A B (outer_rows side on A B) t u told.columns refl
      (outer_is on (places A.width) (places B.width) A.rows B.rows side A.width B.width (combines_at ops call.op call.args) told.gives)
