-- What a SELECT names of columns is there, clause by clause.
use Rattle.std.proofs.Common.{◌≡◌, ℕ, suc, ◌+◌, ◌<◌, ◌≤◌, Bool, true, false, cond, List, [], ◌∷◌, map, filter, flat_map, length, refl, sym, ap, ap₂, ◌∙◌, subst, arith, Option, Some, None}
use Rattle.std.specs.Prelude.{option_map}
use Rattle.std.specs.Option.{option_map_or}
use Rattle.std.specs.List.{list_any, range_with_len}
use Rattle.std.proofs.lemmas.List.{length-append, length-map}
use Rattle.std.proofs.lemmas.List.FromFn.{length-range_with_len}
use Rattle.col_sets.specs.declared.dir.Dir.{Dir}
use Rattle.col_sets.specs.Sets.{has}
use Rattle.script_trees.specs.declared.agg.AggKind.{AggKind}
use Rattle.script_trees.specs.declared.item.Item.{Item}
use Rattle.script_trees.specs.declared.item.Items.{Items}
use Rattle.script_trees.specs.declared.item.Items.TheVariants.{All, Listed}
use Rattle.script_trees.specs.declared.key.RawKey.{RawKey}
use Rattle.script_trees.specs.declared.raw.RawRef.{RawRef}
use Rattle.script_trees.specs.declared.raw_agg.RawAgg.{RawAgg}
use Rattle.script_trees.specs.declared.select.Select.{Select}
use Rattle.scope_expr.specs.declared.expr.Expr.{Expr}
use Rattle.scope_expr.specs.declared.scope.Entry.{Entry}
use Rattle.scope_expr.specs.declared.scope.Scope.{Scope}
use Rattle.scope_expr.specs.Names.{is_unknown}
use Rattle.scope_value.specs.declared.schema.ColType.{ColType}
use Rattle.user_ops.specs.Told.{Operators}
use Rattle.placed_trees.specs.declared.query.Grouping.{Grouping}
use Rattle.placed_trees.specs.declared.query.Query.{Query}
use Rattle.names_in_sight.specs.Inputs.{Before, inputs_of, columns_of_all}
use Rattle.names_in_sight.specs.Sight.{sight_of, named_by, keys_of}
use Rattle.names_in_sight.specs.Views.{is_grouped, aggs_of, grouping_of, renumbered, agg_columns, group_entries, item_scope, outputs_of, heading, view_of}
use Rattle.name_resolution.specs.Queries.{query_of}
use Rattle.binding_causes.specs.Asked.{columns_of, keys_opt}
use Rattle.script_meaning.specs.Meaning.{key_places, order_list}
use Rattle.script_meaning.specs.Part.{Part, number, filter_opt, group_part, listed, grouping_opt, project_part, unique_opt, first_opt, query_part}
use Rattle.script_meaning.specs.Placed.{AreBelow, AreArgsBelow, ArePlaces, IsGroupingBelow, IsOrderBelow, IsQueryPlaced}
use Rattle.resolution_laws.proofs.SightPlaces.{neither, AreFrom, AreEntriesBelow, AreAggsBelow, IsSightBelow, sight_are_from, length_sight, from_below, sight_below, columns_below, all_named_below, keys_below, are_unknown, bound_below, bound_opt_below}

-- ---- how many columns a part has

pub filter_opt_wide : (o : Option Expr) (a : Part) → length (filter_opt o a).cols ≡ length a.cols
filter_opt_wide None a = refl
filter_opt_wide (Some e) a = refl

pub first_opt_wide : (o : Option ℕ) (order : List (ℕ × Dir)) (a : Part) → length (first_opt o order a).cols ≡ length a.cols
first_opt_wide None order a = refl
first_opt_wide (Some n) order a = refl

pub group_wide : (written : Option (List ℕ)) (keys : List ℕ) (aggs : List (AggKind × Option Expr)) (a : Part) → length (group_part written keys aggs a).cols ≡ length keys + length aggs
group_wide written keys aggs a =
    length-append (map (number a 0) keys) (range_with_len a.count (length aggs))
    ∙ ap₂ (λ m n. m + n) (length-map keys (number a 0)) (length-range_with_len a.count (length aggs))

and_none : (n m : ℕ) → n ≡ m → n + 0 ≡ m
and_none n m e = omega arith

pub unique_opt_wide : (b : Bool) (a : Part) → length (unique_opt b a).cols ≡ length a.cols
unique_opt_wide false a = refl
unique_opt_wide true a =
    group_wide None (range_with_len 0 (length a.cols)) [] a ∙ and_none (length (range_with_len 0 (length a.cols))) (length a.cols) (length-range_with_len 0 (length a.cols))

pub project_wide : (items : List Expr) (a : Part) → length (project_part items a).cols ≡ length items
project_wide items a = length-range_with_len a.count (length items)

-- the result of a SELECT has the columns of its items
pub query_wide : (q : Query) (a : Part) → length (query_part q a).cols ≡ length q.items
query_wide q a =
    let g = grouping_opt q.group (filter_opt q.test a) in
    let p = project_part q.items g in
    let f = filter_opt q.having p in
    let u = unique_opt q.distinct f in
    first_opt_wide q.top (order_list q.order) u ∙ unique_opt_wide q.distinct f ∙ filter_opt_wide q.having p ∙ project_wide q.items g

-- ---- what items see

-- as many entries are kept as there are keys
kept_same : (written : List ℕ) (at : ℕ) (es : List Entry) → AreFrom at es → length (filter (λ e. has written e.id) es) ≡ length (filter (has written) (range_with_len at (length es)))
kept_same written at [] h = refl
kept_same written at (e ∷ es) h =
    subst (λ (n : ℕ). length (cond (has written n) (e ∷ filter (λ d. has written d.id) es) (filter (λ d. has written d.id) es))
    ≡ length (cond (has written at) (at ∷ filter (has written) (range_with_len (at + 1) (length es))) (filter (has written) (range_with_len (at + 1) (length es)))))
    (sym h.0) (go (has written at) (kept_same written (at + 1) es h.1))
  where
    go : (b : Bool) → length (filter (λ d. has written d.id) es) ≡ length (filter (has written) (range_with_len (at + 1) (length es)))
        → length (cond b (e ∷ filter (λ d. has written d.id) es) (filter (λ d. has written d.id) es))
        ≡ length (cond b (at ∷ filter (has written) (range_with_len (at + 1) (length es))) (filter (has written) (range_with_len (at + 1) (length es))))
    go true more = ap suc more
    go false more = more

renumbered_from : (at : ℕ) (es : List Entry) → AreFrom at (renumbered at es)
renumbered_from at [] = tt
renumbered_from at (e ∷ es) = (refl, renumbered_from (at + 1) es)

length_renumbered : (at : ℕ) (es : List Entry) → length (renumbered at es) ≡ length es
length_renumbered at [] = refl
length_renumbered at (e ∷ es) = ap suc (length_renumbered (at + 1) es)

aggs_below : (at n : ℕ) (aggs : List (AggKind × Option Expr)) → at + length aggs ≤ n → AreAggsBelow n (agg_columns at aggs)
aggs_below at n [] l = tt
aggs_below at n (a ∷ aggs) l = (let here : at < n = omega arith in here, aggs_below (at + 1) n aggs (omega arith))

room_first : (x k g y : ℕ) → x ≡ k → y ≡ k + g → 0 + x ≤ y
room_first x k g y e f = omega arith

room_second : (x k g y : ℕ) → x ≡ k → y ≡ k + g → x + g ≤ y
room_second x k g y e f = omega arith

pub inner_below : (names : Scope) (a : Part) → length names.entries ≡ length a.cols → AreFrom 0 names.entries → IsSightBelow (length a.cols) names → (g : Option Grouping)
    → IsSightBelow (length (grouping_opt g a).cols) (item_scope names g)
inner_below names a long from is None = is
inner_below names a long from is (Some g) =
    let kept : length (group_entries names g.written) ≡ length (key_places (length a.cols) g.written) =
    length_renumbered 0 (filter (λ e. has g.written e.id) names.entries) ∙ kept_same g.written 0 names.entries from ∙ ap (λ m. length (key_places m g.written)) long in
    let wide : length (grouping_opt (Some g) a).cols ≡ length (key_places (length a.cols) g.written) + length g.aggs = group_wide (listed g.written) (key_places (length a.cols) g.written) g.aggs a in
    record {
      entries =
          from_below 0 (length (grouping_opt (Some g) a).cols) (group_entries names g.written) (renumbered_from 0 (filter (λ e. has g.written e.id) names.entries))
          (room_first (length (group_entries names g.written)) (length (key_places (length a.cols) g.written)) (length g.aggs) (length (grouping_opt (Some g) a).cols) kept wide);
      aggs =
          aggs_below (length (group_entries names g.written)) (length (grouping_opt (Some g) a).cols) g.aggs
          (room_second (length (group_entries names g.written)) (length (key_places (length a.cols) g.written)) (length g.aggs) (length (grouping_opt (Some g) a).cols) kept wide);
    }

-- ---- grouping

args_below : (n : ℕ) (names : Scope) → IsSightBelow n names → (aggs : List RawAgg) → AreArgsBelow n (aggs_of names aggs)
args_below n names is [] = tt
args_below n names is (a ∷ aggs) = (bound_opt_below n names is a.arg, args_below n names is aggs)

written_below : (n : ℕ) (names : Scope) → IsSightBelow n names → (o : Option (List RawRef)) → ArePlaces n (option_map_or (flat_map (named_by names)) o [])
written_below n names is None = tt
written_below n names is (Some refs) = all_named_below n names is refs

pub grouping_below : (n : ℕ) (names : Scope) → IsSightBelow n names → (s : Select) → IsGroupingBelow n (grouping_of names s)
grouping_below n names is s = go (is_grouped s)
  where
    go : (b : Bool) → IsGroupingBelow n (cond b (Some (record { written = option_map_or (flat_map (named_by names)) s.group []; aggs = aggs_of names s.aggs })) None)
    go true = (written_below n names is s.group, args_below n names is s.aggs)
    go false = tt

-- ---- items

stars_below : (n : ℕ) (es : List Entry) (aggs : List (ℕ × ColType)) → AreEntriesBelow n es
    → AreBelow n (map (λ (o : List ℕ × Expr). o.1) (outputs_of (record { entries = es; aggs = aggs }) All))
stars_below n [] aggs h = tt
stars_below n (e ∷ es) aggs h = (h.0, stars_below n es aggs h.1)

pub outputs_below : (n : ℕ) (names : Scope) → IsSightBelow n names → (items : Items) → AreBelow n (map (λ (o : List ℕ × Expr). o.1) (outputs_of names items))
outputs_below n names is All = stars_below n names.entries names.aggs is.entries
outputs_below n names is (Listed items) = go items
  where
    go : (items : List Item) → AreBelow n (map (λ (o : List ℕ × Expr). o.1) (outputs_of names (Listed items)))
    go [] = tt
    go (x ∷ items) = (bound_below n names is x.expr, go items)

pub length_heading : (os : List (List ℕ × Expr)) → length (heading os) ≡ length os
length_heading [] = refl
length_heading (o ∷ os) = ap suc (length_heading os)

pub length_exprs : (os : List (List ℕ × Expr)) → length (map (λ (o : List ℕ × Expr). o.1) os) ≡ length os
length_exprs [] = refl
length_exprs (o ∷ os) = ap suc (length_exprs os)

order_below : (n : ℕ) (names : Scope) → IsSightBelow n names → (o : Option (List RawKey)) → list_any are_unknown (keys_opt names o) ≡ false → IsOrderBelow n (order_list (option_map (keys_of names) o))
order_below n names is None h = tt
order_below n names is (Some keys) h = keys_below n names is keys (neither (list_any (is_unknown names) (columns_of keys)) false h).0

-- ---- the whole

see_same : (n m : ℕ) (names : Scope) → n ≡ m → IsSightBelow n names → IsSightBelow m names
see_same n m names e is = subst (λ (k : ℕ). IsSightBelow k names) e is

pub query_placed : (ops : Operators) (before : Before) (s : Select) (a : Part) → length a.cols ≡ length (columns_of_all (inputs_of ops before s.sources))
    → list_any are_unknown (keys_opt (view_of ops before s).result s.order) ≡ false → IsQueryPlaced (query_of ops before s (view_of ops before s)) a
query_placed ops before s a wide keys =
    let inputs = inputs_of ops before s.sources in
    let v = view_of ops before s in
    let q = query_of ops before s v in
    let names = sight_of inputs in
    let f = filter_opt q.test a in
    let g = grouping_opt q.group f in
    let p = project_part q.items g in
    let h = filter_opt q.having p in
    let filtered : length f.cols ≡ length a.cols = filter_opt_wide q.test a in
    let seen : IsSightBelow (length a.cols) names = see_same (length (columns_of_all inputs)) (length a.cols) names (sym wide) (sight_below inputs) in
    let kept : IsSightBelow (length f.cols) names = see_same (length a.cols) (length f.cols) names (sym filtered) seen in
    let long : length names.entries ≡ length f.cols = length_sight 0 inputs ∙ sym wide ∙ sym filtered in
    let inner : IsSightBelow (length g.cols) v.inner = inner_below names f long (sight_are_from 0 inputs) kept q.group in
    let items : length (heading v.outputs) ≡ length p.cols = length_heading v.outputs ∙ sym (length_exprs v.outputs) ∙ sym (project_wide q.items g) in
    let result : IsSightBelow (length p.cols) v.result = see_same (length (heading v.outputs)) (length p.cols) v.result items (columns_below (heading v.outputs)) in
    let last : length p.cols ≡ length (unique_opt q.distinct h).cols = sym (unique_opt_wide q.distinct h ∙ filter_opt_wide q.having p) in
    record {
      tests = bound_opt_below (length a.cols) names seen s.filter;
      groups = grouping_below (length f.cols) names kept s;
      gives = outputs_below (length g.cols) v.inner inner s.items;
      has = bound_opt_below (length p.cols) v.result result s.having;
      orders = order_below (length (unique_opt q.distinct h).cols) v.result (see_same (length p.cols) (length (unique_opt q.distinct h).cols) v.result last result) s.order keys;
    }
