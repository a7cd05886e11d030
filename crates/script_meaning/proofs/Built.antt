-- The trees of a part are as binding promises, wherever the part stands.
use Rattle.std.proofs.Common.{◌≡◌, ℕ, zero, suc, ◌+◌, ◌<◌, ◌≤◌, Bool, true, false, not, List, [], ◌∷◌, ◌++◌, map, length, refl, sym, ap, ap₂, ◌∙◌, append-nil, subst, arith, Option, Some, None, slice_get}
use Rattle.std.specs.Prelude.{option_map, IsSomeAnd, IfSome}
use Rattle.std.specs.List.{range_with_len, list_all}
use Rattle.std.proofs.lemmas.List.{length-map, length-append, map-append}
use Rattle.std.proofs.lemmas.List.Folds.{list_all-append}
use Rattle.std.proofs.lemmas.List.FromFn.{length-range_with_len}
use Rattle.std.proofs.lemmas.Grind.{flat_map-append}
use Rattle.col_sets.specs.declared.dir.Dir.{Dir}
use Rattle.col_sets.specs.Sets.{has, count}
use Rattle.col_sets.specs.Tests.{and_true, or_left, to_test}
use Rattle.script_trees.specs.declared.agg.AggKind.{AggKind}
use Rattle.scope_expr.specs.declared.expr.Expr.{Expr}
use Rattle.logical_trees.specs.declared.logic_op.LogicOp.{LogicOp}
use Rattle.logical_trees.specs.declared.logic_op.LogicOp.TheVariants.{Filter, Project, Group, Process, Reduce, Top}
use Rattle.logical_trees.specs.Tree.{Expression, one, two, nodes, columns_of, fresh_columns, numbered_columns}
use Rattle.logical_trees.specs.Formed.{IsWhole, IsFormed, IsOneFormed, IsTwoFormed}
use Rattle.logical_dag.specs.Scripts.{top_of, is_step, scan_of, scans_of}
use Rattle.scope_expr.specs.Moved.{moved}
use Rattle.column_ranks.specs.Rising.{IsRising}
use Rattle.column_ranks.specs.RisingLemmas.{rising_range}
use Rattle.placed_trees.specs.declared.call.Call.{Call}
use Rattle.placed_trees.specs.declared.query.Grouping.{Grouping}
use Rattle.placed_trees.specs.declared.query.Query.{Query}
use Rattle.placed_trees.specs.declared.source.StoredPlaces.{StoredPlaces}
use Rattle.placed_trees.specs.declared.source.Stream.{Stream}
use Rattle.script_meaning.specs.Meaning.{places, key_places, order_list, unless_stored}
use Rattle.script_meaning.specs.Part.{Part, cols_at, number, scanned, referred, over, join_on, joined_part, call_at, order_at, process_part, reduce_part, combine_on, combine_part, filter_part, filter_opt, numbered, group_part, listed, grouping_opt, project_part, unique_opt, first_opt, query_part, stored_part}
use Rattle.script_meaning.specs.Placed.{IsBelow, IsBelowOpt, AreBelow, AreArgsBelow, IsGroupingBelow, ArePlaces, IsOrderBelow, IsPresortBelow, IsStoredBelow, IsOn, IsQueryPlaced}
use Rattle.script_meaning.proofs.Grouped.{ids_numbered}
use Rattle.script_meaning.proofs.Shaped.{has_left, has_right, IsShaped, filter_opt_shaped, project_shaped, first_shaped, keys_rising, group_shaped, keys_ascend, query_shaped, process_shaped, reduce_shaped, scanned_shaped, referred_shaped, beside, left_rises, right_rises, joined_shaped, combine_shaped}
use Rattle.script_meaning.proofs.Named.{has_number, rising_places, over_moved, all_over, args_over, within_moved, order_moved, presort_over, sides_moved, group_formed, range_set, call_formed, join_formed}

-- ---- ranges and scans

pub range_append : (c m n : ℕ) → range_with_len c m ++ range_with_len (c + m) n ≡ range_with_len c (m + n)
range_append c zero n = let e : c + 0 ≡ c = omega arith in let f : 0 + n ≡ n = omega arith in ap₂ (λ i k. range_with_len i k) e (sym f)
range_append c (suc m) n =
    let e : c + suc m ≡ c + 1 + m = omega arith in
    let f : suc m + n ≡ suc (m + n) = omega arith in
    ap (λ i. c ∷ (range_with_len (c + 1) m ++ range_with_len i n)) e ∙ ap (λ l. c ∷ l) (range_append (c + 1) m n) ∙ ap (λ k. range_with_len c k) (sym f)

pub scans_one : (op : LogicOp) (t : Expression) → scan_of op ≡ [] → scans_of (one op t) ≡ scans_of t
scans_one op t h =
    flat_map-append (λ u. scan_of (top_of u)) (nodes t) (one op t ∷ []) ∙ ap (λ l. scans_of t ++ (l ++ [])) h ∙ append-nil (scans_of t)

pub scans_two : (op : LogicOp) (t u : Expression) → scan_of op ≡ [] → scans_of (two op t u) ≡ scans_of t ++ scans_of u
scans_two op t u h =
    flat_map-append (λ v. scan_of (top_of v)) (nodes t) (nodes u ++ two op t u ∷ [])
    ∙ ap (λ l. scans_of t ++ l) (flat_map-append (λ v. scan_of (top_of v)) (nodes u) (two op t u ∷ []) ∙ ap (λ l. scans_of u ++ (l ++ [])) h ∙ append-nil (scans_of u))

-- the shared results that are referred to are there, as wide as their statements
abbrev pub AreKnown : (ℕ → ℕ) → List (List ℕ) → (ℕ → ℕ) → List ℕ → Type 0
AreKnown width_of results name refs = (k : ℕ) → has refs k ≡ true → IsSomeAnd (slice_get results (name k)) (λ result. count result ≡ width_of k)

-- what the scans are declared to be stored by are places among their columns
abbrev pub AreDeclared : List Stream → Type 0
AreDeclared [] = Unit {0}
AreDeclared (d ∷ scans) = IsStoredBelow (length d.schema) d.stored × AreDeclared scans

pub declared_append : (ds es : List Stream) → AreDeclared ds → AreDeclared es → AreDeclared (ds ++ es)
declared_append [] es h k = k
declared_append (d ∷ ds) es h k = (h.0, declared_append ds es h.1 k)

-- what a part is stored by are places, and it has no order then
abbrev pub IsStoredPart : Part → Type 0
IsStoredPart a = IsStoredBelow (length a.cols) a.stored × IfSome a.stored (λ s. a.order ≡ None)

module _ (width_of : ℕ → ℕ) where
  pub record IsBuilt (a : Part) : Type 0 where
    pub shape : IsShaped a
    pub order : IsPresortBelow (length a.cols) a.order
    pub stored : IsStoredPart a
    pub declared : AreDeclared a.scans
    pub whole : (name : ℕ → ℕ) (s c : ℕ) → IsWhole (a.tree name s c)
    pub plain : (name : ℕ → ℕ) (s c : ℕ) → list_all (λ u. not (is_step (top_of u))) (nodes (a.tree name s c)) ≡ true
    pub numbers : (name : ℕ → ℕ) (s c : ℕ) → numbered_columns (a.tree name s c) ≡ range_with_len c a.count
    pub scans : (name : ℕ → ℕ) (s c : ℕ) → map (λ x. x.0) (scans_of (a.tree name s c)) ≡ range_with_len s (length a.scans)
    pub widths : (name : ℕ → ℕ) (s c : ℕ) → map (λ x. count x.1) (scans_of (a.tree name s c)) ≡ map (λ d. length d.schema) a.scans
    pub formed : (name : ℕ → ℕ) (s c : ℕ) (results : List (List ℕ)) → c + a.count ≤ 128 → AreKnown width_of results name a.refs → IsFormed results (a.tree name s c)

  -- ---- one child

  over_built : (a : Part) → IsBuilt a → (cols : List ℕ) (count : ℕ) (op : ℕ → LogicOp) → IsShaped (over a cols count op) → a.count ≤ count
      → ((c : ℕ) (t : Expression) → IsWhole t → IsWhole (one (op c) t)) → ((c : ℕ) → is_step (op c) ≡ false) → ((c : ℕ) → scan_of (op c) ≡ [])
      → ((c : ℕ) → range_with_len c a.count ++ fresh_columns (op c) ≡ range_with_len c count)
      → ((c : ℕ) → c + count ≤ 128 → IsOneFormed (cols_at a c) (op c)) → IsBuilt (over a cols count op)
  over_built a b cols count op shape more whole step scan fresh formed = record {
    shape = shape;
    order = tt;
    stored = (tt, tt);
    declared = b.declared;
    whole = λ name s c. whole c (a.tree name s c) (b.whole name s c);
    plain = λ name s c.
        list_all-append (λ u. not (is_step (top_of u))) (nodes (a.tree name s c)) (one (op c) (a.tree name s c) ∷ [])
        ∙ and_true _ _ (b.plain name s c) (and_true _ _ (ap not (step c)) refl);
    numbers = λ name s c. ap (λ l. l ++ fresh_columns (op c)) (b.numbers name s c) ∙ fresh c;
    scans = λ name s c. ap (map (λ x. x.0)) (scans_one (op c) (a.tree name s c) (scan c)) ∙ b.scans name s c;
    widths = λ name s c. ap (map (λ (x : ℕ × List ℕ). length x.1)) (scans_one (op c) (a.tree name s c) (scan c)) ∙ b.widths name s c;
    formed = λ name s c results l k.
        let small : c + a.count ≤ 128 = omega arith in
        (b.formed name s c results small k, subst (λ (cs : List ℕ). IsOneFormed cs (op c)) (sym (b.shape.columns name s c small)) (formed c l));
  }

  pub there : (a : Part) (c p : ℕ) → p < length a.cols → has (cols_at a c) (number a c p) ≡ true
  there a c p l = has_number c a.cols p l

  keeps_numbers : (c n : ℕ) → range_with_len c n ++ [] ≡ range_with_len c n
  keeps_numbers c n = append-nil (range_with_len c n)

  filter_built : (e : Expr) (a : Part) → IsBuilt a → IsBelow (length a.cols) e → IsBuilt (filter_part e a)
  filter_built e a b h =
      over_built a b a.cols a.count (λ c. Filter (moved (number a c) e)) (filter_opt_shaped (Some e) a b.shape) (omega arith) (λ c t w. w) (λ c. refl) (λ c. refl) (λ c. keeps_numbers c a.count)
      (λ c l. over_moved (number a c) (cols_at a c) (length a.cols) (there a c) e h)

  filter_opt_built : (o : Option Expr) (a : Part) → IsBuilt a → IsBelowOpt (length a.cols) o → IsBuilt (filter_opt o a)
  filter_opt_built None a b h = record {
    shape = filter_opt_shaped None a b.shape;
    order = tt;
    stored = (tt, tt);
    declared = b.declared;
    whole = b.whole;
    plain = b.plain;
    numbers = b.numbers;
    scans = b.scans;
    widths = b.widths;
    formed = b.formed;
  }
  filter_opt_built (Some e) a b h = filter_built e a b h

  project_built : (es : List Expr) (a : Part) → IsBuilt a → AreBelow (length a.cols) es → IsBuilt (project_part es a)
  project_built es a b h =
      over_built a b (range_with_len a.count (length es)) (a.count + length es)
      (λ c. Project (map (moved (number a c)) es) (range_with_len (c + a.count) (length es))) (project_shaped es a b.shape) (omega arith) (λ c t w. w) (λ c. refl) (λ c. refl)
      (λ c. range_append c a.count (length es))
      (λ c l. (range_set (c + a.count) (length es) (omega arith), length-map es (moved (number a c)) ∙ sym (length-range_with_len (c + a.count) (length es)), all_over (number a c) (cols_at a c) (length a.cols) (there a c) es h))

  first_built : (o : Option ℕ) (order : List (ℕ × Dir)) (a : Part) → IsBuilt a → IsOrderBelow (length a.cols) order → IsBuilt (first_opt o order a)
  first_built None order a b h = b
  first_built (Some n) order a b h =
      over_built a b a.cols a.count (λ c. Top (record { n = n; order = map (λ k. (number a c k.0, k.1)) order })) (first_shaped (Some n) order a b.shape) (omega arith) (λ c t w. w) (λ c. refl) (λ c. refl)
      (λ c. keeps_numbers c a.count) (λ c l. order_moved (number a c) (cols_at a c) (length a.cols) (there a c) order h)

  group_built : (written : Option (List ℕ)) (keys : List ℕ) (aggs : List (AggKind × Option Expr)) (a : Part) → IsBuilt a → IsRising 0 keys (length a.cols) → AreArgsBelow (length a.cols) aggs
      → IsBuilt (group_part written keys aggs a)
  group_built written keys aggs a b k h =
      over_built a b (map (number a 0) keys ++ range_with_len a.count (length aggs)) (a.count + length aggs)
      (λ c. Group (record { written = option_map (map (number a c)) written; keys = map (number a c) keys; aggs = numbered (number a c) (c + a.count) aggs }))
      (group_shaped written keys aggs a b.shape k) (omega arith) (λ c t w. w) (λ c. refl) (λ c. refl)
      (λ c. ap (λ l. range_with_len c a.count ++ l) (ids_numbered (number a c) (c + a.count) aggs) ∙ range_append c a.count (length aggs))
      (λ c l. (
        group_formed (option_map (map (number a c)) written) (number a c) keys aggs (c + a.count) (keys_rising a b.shape keys k c) (omega arith),
        within_moved (number a c) (cols_at a c) (length a.cols) (there a c) keys (rising_places 0 (length a.cols) keys k),
        args_over (number a c) (cols_at a c) (length a.cols) (there a c) (c + a.count) aggs h,
      ))

  grouping_built : (o : Option Grouping) (a : Part) → IsBuilt a → IsGroupingBelow (length a.cols) o → IsBuilt (grouping_opt o a)
  grouping_built None a b h = b
  grouping_built (Some g) a b h = group_built (listed g.written) (key_places (length a.cols) g.written) g.aggs a b (keys_ascend (length a.cols) g.written) h.1

  unique_built : (d : Bool) (a : Part) → IsBuilt a → IsBuilt (unique_opt d a)
  unique_built false a b = b
  unique_built true a b = group_built None (places (length a.cols)) [] a b (rising_range 0 (length a.cols) (length a.cols) (omega arith)) tt

  pub query_built : (q : Query) (a : Part) → IsBuilt a → IsQueryPlaced q a → IsBuilt (query_part q a)
  query_built q a b h =
      let under = unique_built q.distinct _ (filter_opt_built q.having _ (project_built q.items _ (grouping_built q.group _ (filter_opt_built q.test a b h.tests) h.groups) h.gives) h.has) in
      let all = first_built q.top (order_list q.order) _ under h.orders in
      record {
        shape = query_shaped q a b.shape;
        order = go q.top q.order (unique_opt q.distinct (filter_opt q.having (project_part q.items (grouping_opt q.group (filter_opt q.test a))))) h.orders;
        stored = (tt, tt);
        declared = all.declared;
        whole = all.whole;
        plain = all.plain;
        numbers = all.numbers;
        scans = all.scans;
        widths = all.widths;
        formed = all.formed;
      }
    where
      go : (o : Option ℕ) (order : Option (List (ℕ × Dir))) (u : Part) → IsOrderBelow (length u.cols) (order_list order) → IsPresortBelow (length (first_opt o (order_list order) u).cols) order
      go o None u k = tt
      go None (Some order) u k = k
      go (Some n) (Some order) u k = k

  pub process_built : (call : Call) (a : Part) → IsBuilt a → IsBuilt (process_part call a)
  process_built call a b =
      over_built a b (range_with_len a.count (length call.output)) (a.count + length call.output) (λ c. Process (call_at call (c + a.count))) (process_shaped call a b.shape) (omega arith)
      (λ c t w. w) (λ c. refl) (λ c. refl) (λ c. range_append c a.count (length call.output)) (λ c l. call_formed call (c + a.count) (omega arith))

  pub reduce_built : (on : List ℕ) (presort : Option (List (ℕ × Dir))) (call : Call) (a : Part) → IsBuilt a → ArePlaces (length a.cols) on → IsPresortBelow (length a.cols) presort
      → IsBuilt (reduce_part on presort call a)
  reduce_built on presort call a b h k =
      over_built a b (range_with_len a.count (length call.output)) (a.count + length call.output)
      (λ c. Reduce (call_at call (c + a.count)) (map (number a c) on) (order_at (number a c) presort)) (reduce_shaped on presort call a b.shape) (omega arith)
      (λ c t w. w) (λ c. refl) (λ c. refl) (λ c. range_append c a.count (length call.output))
      (λ c l. (
        call_formed call (c + a.count) (omega arith),
        within_moved (number a c) (cols_at a c) (length a.cols) (there a c) on h,
        presort_over (number a c) (cols_at a c) (length a.cols) (there a c) presort k,
      ))

  -- ---- leaves

  -- an OUTPUT's part
  pub stored_built : (stored : Option StoredPlaces) (a : Part) → IsBuilt a → IsStoredBelow (length a.cols) stored → IsBuilt (stored_part stored a)
  stored_built stored a b h = record {
    shape = record { rising = b.shape.rising; columns = b.shape.columns };
    order = ordered stored;
    stored = (h, unordered stored);
    declared = b.declared;
    whole = b.whole;
    plain = b.plain;
    numbers = b.numbers;
    scans = b.scans;
    widths = b.widths;
    formed = b.formed;
  }
    where
      ordered : (o : Option StoredPlaces) → IsPresortBelow (length a.cols) (unless_stored o a.order)
      ordered None = b.order
      ordered (Some s) = tt

      unordered : (o : Option StoredPlaces) → IfSome o (λ s. unless_stored o a.order ≡ None)
      unordered None = tt
      unordered (Some s) = refl

  pub scanned_built : (d : Stream) → IsStoredBelow (length d.schema) d.stored → IsBuilt (scanned d)
  scanned_built d h = record {
    shape = scanned_shaped d;
    order = tt;
    stored = (tt, tt);
    declared = (h, tt);
    whole = λ name s c. tt;
    plain = λ name s c. refl;
    numbers = λ name s c. refl;
    scans = λ name s c. refl;
    widths = λ name s c. ap (λ n. n ∷ []) (length-range_with_len c (length d.schema));
    formed = λ name s c results l k. range_set c (length d.schema) l;
  }

  pub referred_built : (k : ℕ) (b : Part) → IsBuilt b → width_of k ≡ length b.cols → IsBuilt (referred k b)
  referred_built k b built wide = record {
    shape = referred_shaped k b;
    order = subst (λ (n : ℕ). IsPresortBelow n b.order) (sym (length-range_with_len 0 (length b.cols))) built.order;
    stored = (tt, tt);
    declared = tt;
    whole = λ name s c. tt;
    plain = λ name s c. refl;
    numbers = λ name s c. refl;
    scans = λ name s c. refl;
    widths = λ name s c. refl;
    formed = λ name s c results l known. (range_set c (length b.cols) l, go c (slice_get results (name k)) (known k (or_left _ _ (to_test k k refl))));
  }
    where
      go : (c : ℕ) (o : Option (List ℕ)) → IsSomeAnd o (λ result. count result ≡ width_of k) → IsSomeAnd o (λ result. count result ≡ count (range_with_len c (length b.cols)))
      go c None h = h
      go c (Some result) h = h ∙ wide ∙ sym (length-range_with_len c (length b.cols))

  -- ---- two children

  beside_built : (a b : Part) → IsBuilt a → IsBuilt b → (cols : List ℕ) (count : ℕ) (op : ℕ → LogicOp) → IsShaped (beside a b cols count op) → a.count + b.count ≤ count
      → ((c : ℕ) (t u : Expression) → IsWhole t → IsWhole u → IsWhole (two (op c) t u)) → ((c : ℕ) → is_step (op c) ≡ false) → ((c : ℕ) → scan_of (op c) ≡ [])
      → ((c : ℕ) → range_with_len c a.count ++ (range_with_len (c + a.count) b.count ++ fresh_columns (op c)) ≡ range_with_len c count)
      → ((c : ℕ) → c + count ≤ 128 → IsTwoFormed (cols_at a c) (cols_at b (c + a.count)) (op c)) → IsBuilt (beside a b cols count op)
  beside_built a b x y cols count op shape more whole step scan fresh formed = record {
    shape = shape;
    order = tt;
    stored = (tt, tt);
    declared = declared_append a.scans b.scans x.declared y.declared;
    whole = λ name s c. whole c (a.tree name s c) (b.tree name (s + length a.scans) (c + a.count)) (x.whole name s c) (y.whole name (s + length a.scans) (c + a.count));
    plain = λ name s c.
        list_all-append (λ u. not (is_step (top_of u))) (nodes (a.tree name s c))
        (nodes (b.tree name (s + length a.scans) (c + a.count)) ++ two (op c) (a.tree name s c) (b.tree name (s + length a.scans) (c + a.count)) ∷ [])
        ∙ and_true _ _ (x.plain name s c)
        (list_all-append (λ u. not (is_step (top_of u))) (nodes (b.tree name (s + length a.scans) (c + a.count))) (two (op c) (a.tree name s c) (b.tree name (s + length a.scans) (c + a.count)) ∷ [])
        ∙ and_true _ _ (y.plain name (s + length a.scans) (c + a.count)) (and_true _ _ (ap not (step c)) refl));
    numbers = λ name s c. ap₂ (λ l m. l ++ (m ++ fresh_columns (op c))) (x.numbers name s c) (y.numbers name (s + length a.scans) (c + a.count)) ∙ fresh c;
    scans = λ name s c.
        ap (map (λ x. x.0)) (scans_two (op c) (a.tree name s c) (b.tree name (s + length a.scans) (c + a.count)) (scan c))
        ∙ map-append (λ (x : ℕ × List ℕ). x.0) (scans_of (a.tree name s c)) (scans_of (b.tree name (s + length a.scans) (c + a.count)))
        ∙ ap₂ (λ l m. l ++ m) (x.scans name s c) (y.scans name (s + length a.scans) (c + a.count))
        ∙ range_append s (length a.scans) (length b.scans)
        ∙ ap (range_with_len s) (sym (length-append a.scans b.scans));
    widths = λ name s c.
        ap (map (λ (x : ℕ × List ℕ). length x.1)) (scans_two (op c) (a.tree name s c) (b.tree name (s + length a.scans) (c + a.count)) (scan c))
        ∙ map-append (λ (x : ℕ × List ℕ). length x.1) (scans_of (a.tree name s c)) (scans_of (b.tree name (s + length a.scans) (c + a.count)))
        ∙ ap₂ (λ l m. l ++ m) (x.widths name s c) (y.widths name (s + length a.scans) (c + a.count))
        ∙ sym (map-append (λ (d : Stream). length d.schema) a.scans b.scans);
    formed = λ name s c results l k.
        let in_left : c + a.count ≤ 128 = omega arith in
        let in_right : c + a.count + b.count ≤ 128 = omega arith in (
          x.formed name s c results in_left (λ j h. k j (has_left a.refs b.refs j h)),
          y.formed name (s + length a.scans) (c + a.count) results in_right (λ j h. k j (has_right a.refs b.refs j h)),
          subst (λ (cs : List ℕ). IsTwoFormed cs (columns_of (b.tree name (s + length a.scans) (c + a.count))) (op c)) (sym (x.shape.columns name s c in_left))
              (subst (λ (cs : List ℕ). IsTwoFormed (cols_at a c) cs (op c)) (sym (y.shape.columns name (s + length a.scans) (c + a.count) in_right)) (formed c l)),
        );
  }

  pairs_some : (f g : ℕ → ℕ) (on : List (ℕ × ℕ)) → 0 < length on → 0 < length {A = ℕ × ℕ} (map (λ (p : ℕ × ℕ). (f p.0, g p.1)) on)
  pairs_some f g [] h = absurd (omega arith)
  pairs_some f g (p ∷ on) h = omega arith

  pub joined_built : (on : List (ℕ × ℕ)) (a b : Part) → IsBuilt a → IsBuilt b → IsOn a b on → IsBuilt (joined_part on a b)
  joined_built on a b x y h =
      beside_built a b x y (a.cols ++ map (λ p. a.count + p) b.cols) (a.count + b.count) (join_on a b on) (joined_shaped on a b x.shape y.shape) (omega arith)
      (λ c t u v w. (v, w)) (λ c. refl) (λ c. refl)
      (λ c. ap (λ l. range_with_len c a.count ++ l) (append-nil (range_with_len (c + a.count) b.count)) ∙ range_append c a.count b.count)
      (λ c l. join_formed (cols_at a c) (cols_at b (c + a.count)) (c + a.count) (c + a.count + b.count) (map (λ p. (number a c p.0, number b (c + a.count) p.1)) on)
      (left_rises a x.shape c) (right_rises b y.shape (c + a.count)) (pairs_some (number a c) (number b (c + a.count)) on h.0)
      (sides_moved (number a c) (number b (c + a.count)) (cols_at a c) (cols_at b (c + a.count)) (length a.cols) (length b.cols) (there a c) (there b (c + a.count)) on h.1))

  pub combine_built : (on : List (ℕ × ℕ)) (before after : Option (List (ℕ × Dir))) (call : Call) (a b : Part) → IsBuilt a → IsBuilt b → IsOn a b on
      → IsPresortBelow (length a.cols) before → IsPresortBelow (length b.cols) after → IsBuilt (combine_part on before after call a b)
  combine_built on before after call a b x y h k m =
      beside_built a b x y (range_with_len (a.count + b.count) (length call.output)) (a.count + b.count + length call.output) (combine_on a b on before after call)
      (combine_shaped on before after call a b x.shape y.shape) (omega arith)
      (λ c t u v w. (v, w)) (λ c. refl) (λ c. refl)
      (λ c.
      ap (λ l. range_with_len c a.count ++ l) (range_append (c + a.count) b.count (length call.output))
      ∙ range_append c a.count (b.count + length call.output)
      ∙ ap (range_with_len c) (later a.count b.count (length call.output)))
      (λ c l. (
        call_formed call (c + a.count + b.count) (omega arith),
        pairs_some (number a c) (number b (c + a.count)) on h.0,
        sides_moved (number a c) (number b (c + a.count)) (cols_at a c) (cols_at b (c + a.count)) (length a.cols) (length b.cols) (there a c) (there b (c + a.count)) on h.1,
        presort_over (number a c) (cols_at a c) (length a.cols) (there a c) before k,
        presort_over (number b (c + a.count)) (cols_at b (c + a.count)) (length b.cols) (there b (c + a.count)) after m,
      ))
    where
      later : (i j n : ℕ) → i + (j + n) ≡ i + j + n
      later i j n = omega arith
