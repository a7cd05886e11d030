-- The statements of a script without causes are within the limits of the language.
use Rattle.std.proofs.Common.{◌≡◌, ℕ, suc, ◌+◌, ◌-◌, ◌<◌, ◌≤◌, Bool, true, false, not, cond, ◌||◌, ◌&&◌, nat_lt, List, [], ◌∷◌, ◌++◌, map, filter, flat_map, length, append_assoc, append-nil, refl, sym, ap, ap₂, ◌∙◌, subst, arith, Option, Some, None, slice_get, ◌==◌}
use Rattle.std.specs.Prelude.{is_some, option_map, count_by}
use Rattle.std.specs.Option.{option_map_or}
use Rattle.std.specs.List.{All, list_any, range_with_len}
use Rattle.std.proofs.lemmas.Bool.Decides.{nat_tests}
use Rattle.std.proofs.lemmas.List.{length-append, length_push, length-map}
use Rattle.std.proofs.lemmas.List.Folds.{list_any-append}
use Rattle.std.proofs.lemmas.List.Sums.{length-filter}
use Rattle.std.proofs.lemmas.List.Elements.{All-head, All-tail}
use Rattle.std.proofs.lemmas.Option.{slice_get_within}
use Rattle.list_lemmas.specs.Counts.{count-cons}
use Rattle.col_sets.specs.Columns.{range_step}
use Rattle.col_sets.specs.Tests.{from_test}
use Rattle.script_trees.specs.declared.command.Command as raw_command
use Rattle.script_trees.specs.declared.command.Command.TheVariants as raw
use Rattle.script_trees.specs.declared.key.RawKey.{RawKey}
use Rattle.script_trees.specs.declared.raw.RawRef.{RawRef}
use Rattle.script_trees.specs.declared.script.Statement.{Statement}
use Rattle.script_trees.specs.declared.select.Joined as raw_joined
use Rattle.script_trees.specs.declared.select.Select.{Select}
use Rattle.script_trees.specs.declared.source.Source as raw_source
use Rattle.script_trees.specs.declared.source.Origin.{Origin}
use Rattle.script_trees.specs.declared.source.Origin.TheVariants.{Named, Stream}
use Rattle.script_trees.specs.declared.stored.RawStored.{RawStored}
use Rattle.scope_syntax.specs.Statements.{can_be_named}
use Rattle.scope_syntax.specs.Written.{HasSome, HasSomeIf, HasKeysIf, AreJoined, HasParts, IsRight}
use Rattle.scope_expr.specs.declared.scope.Scope.{Scope}
use Rattle.scope_expr.specs.Names.{is_named, is_ambiguous}
use Rattle.scope_expr.specs.Sight.{AreDistinct}
use Rattle.scope_expr.specs.Laws.{IsOneInSight}
use Rattle.user_ops.specs.Told.{Operators}
use Rattle.outer_joins.specs.declared.side.Side.{Side}
use Rattle.placed_trees.specs.declared.query.Grouping.{Grouping}
use Rattle.names_in_sight.specs.declared.input.Input.{Input}
use Rattle.names_in_sight.specs.declared.sides.Sides.{Sides}
use Rattle.names_in_sight.specs.Sight.{sight_of, sight_of_columns, named_by, place_of, key_of, keys_of}
use Rattle.names_in_sight.specs.Inputs.{Before, gives, result_of, input_at, heading_at, input_of, input_of_opt, inputs_of}
use Rattle.names_in_sight.specs.Views.{sides_of, pair_of, outer_side, is_grouped, aggs_of, grouping_of, view_of}
use Rattle.name_resolution.specs.Queries.{resolved_origin, first_source, joined_of, joins_from, beside_one, beside_of}
use Rattle.name_resolution.specs.Resolved.{source_of, stored_of, resolved}
use Rattle.binding_causes.specs.Asked.{Asked, columns_of, refs_opt, keys_opt, stored_opt, keys_alone, ons_from, ons_of, asked_by_select, asked_by_reduce, asked_by_combine, asked_by}
use Rattle.binding_causes.specs.Columns.{names_ambiguous}
use Rattle.binding_causes.specs.Names.{inputs}
use Rattle.binding_causes.specs.Limits.{one_or_none, mentions_in, mentions, is_shared, shared_among, has_many_inputs, has_many_keys}
use Rattle.binding_causes.specs.Resolution.{Place, is_top_alone, next, start}
use Rattle.script_meaning.specs.Bound as bound
use Rattle.script_meaning.specs.Placed.{ArePlaces}
use Rattle.script_meaning.specs.Within.{IsFew, IsOrderFew, IsStoredFew, IsSourceFew, IsJoinFew, AreJoinsFew, IsBesideFew, IsGroupingFew, IsTopOrdered, IsCommandWithin, AreWithin, IsWithin}
use Rattle.resolution_laws.specs.Causeless.{resolved_all, AreCauseless}
use Rattle.resolution_laws.specs.LimitLaws.{IsSightDistinct, AreSightsDistinct}
use Rattle.resolution_laws.proofs.Mentions.{alike_length, alike_resolved, mentions_same}

-- ---- tests that are false

pub or_none : (a b : Bool) → (a || b) ≡ false → (a ≡ false) × (b ≡ false)
or_none true b h = absurd (cc)
or_none false b h = (refl, h)

pub any_first : {A : Type 0} (f : A → Bool) (x : A) (xs : List A) → list_any f (x ∷ xs) ≡ false → (f x ≡ false) × (list_any f xs ≡ false)
any_first f x xs h = or_none (f x) (list_any f xs) h

pub any_parts : {A : Type 0} (f : A → Bool) (xs ys : List A) → list_any f (xs ++ ys) ≡ false → (list_any f xs ≡ false) × (list_any f ys ≡ false)
any_parts f xs ys h = or_none (list_any f xs) (list_any f ys) (sym (list_any-append f xs ys) ∙ h)

pub at_most : (m n : ℕ) → nat_lt m n ≡ false → n ≤ m
at_most m n h = grind (arith, nat_tests, h)

-- ---- lists of keys

abbrev wide : Scope × List RawRef → Bool
wide k = nat_lt 4 (length k.1)

abbrev wide_on : Sides × List (RawRef × RawRef) → Bool
wide_on k = nat_lt 4 (length k.1)

abbrev doubtful : Scope × List RawRef → Bool
doubtful k = list_any (is_ambiguous k.0) k.1

few_lists : (a : Asked) → has_many_keys a ≡ false → (list_any wide a.keys ≡ false) × (list_any wide_on a.ons ≡ false)
few_lists a h = or_none (list_any wide a.keys) (list_any wide_on a.ons) h

few : {A B : Type 0} (f : A → B) (xs : List A) → HasSome xs → nat_lt 4 (length xs) ≡ false → IsFew (length (map f xs))
few f xs some h =
    let s : 0 < length xs = some in
    let e = length-map xs f in
    let l = at_most 4 (length xs) h in (omega (arith, e, s), omega (arith, e, l))

order_few : (names others : Scope) (o : Option (List RawKey)) → HasSomeIf o → list_any wide (keys_opt names o) ≡ false → IsOrderFew (option_map (keys_of others) o)
order_few names others None some h = tt
order_few names others (Some keys) some h =
    let e : length (columns_of keys) ≡ length keys = length-map keys (λ k. k.column) in
    few (key_of others) keys some (subst (λ n. nat_lt 4 n ≡ false) e (any_first wide (names, columns_of keys) [] h).0)

stored_few : (names others : Scope) (o : Option RawStored) → HasKeysIf o → list_any wide (stored_opt names o) ≡ false → IsStoredFew (stored_of others o)
stored_few names others None some h = tt
stored_few names others (Some s) some h =
    let k = any_first wide (names, s.hash) (keys_opt names s.sorted) h in
    (few (place_of others) s.hash some.0 k.0, order_few names others s.sorted some.1 k.1)

-- ---- FROM

origin_few : (ops : Operators) (o : Origin) → IsSourceFew (resolved_origin ops o)
origin_few ops (Named n) = tt
origin_few ops (Stream name call) = tt

source_few : (ops : Operators) (o : Option raw_source.Source) → IsSourceFew (source_of ops o)
source_few ops None = tt
source_few ops (Some s) = origin_few ops s.origin

first_few : (ops : Operators) (js : List raw_joined.Joined) → IsSourceFew (first_source ops js)
first_few ops [] = tt
first_few ops (j ∷ more) = origin_few ops j.source.origin

abbrev HasOn : raw_joined.Joined → Type 0
HasOn j = HasSome j.on

join_few : (ops : Operators) (before : Before) (done : List Input) (j : raw_joined.Joined) → HasOn j → nat_lt 4 (length j.on) ≡ false → IsJoinFew (joined_of ops before done j)
join_few ops before done j some h = (origin_few ops j.source.origin, few (pair_of (sides_of done (input_of ops before j.source))) j.on some h)

abbrev read_by : Operators → Before → List raw_joined.Joined → List Input
read_by ops before = map (λ j. input_of ops before j.source)

joins_few : (ops : Operators) (before : Before) (seen done : List Input) (js : List raw_joined.Joined) → All HasOn js
    → list_any wide_on (ons_from seen (read_by ops before js) js) ≡ false → AreJoinsFew (joins_from ops before done js)
joins_few ops before seen done [] some h = tt
joins_few ops before seen done (j ∷ more) some h =
    let i = input_of ops before j.source in
    let k = any_first wide_on (sides_of seen i, j.on) (ons_from (seen ++ i ∷ []) (read_by ops before more) more) h in
    (join_few ops before done j (All-head HasOn j more some) k.0, joins_few ops before (seen ++ i ∷ []) (done ++ i ∷ []) more (All-tail HasOn j more some) k.1)

joins_length : (ops : Operators) (before : Before) (done : List Input) (js : List raw_joined.Joined) → length (joins_from ops before done js) ≡ length js
joins_length ops before done [] = refl
joins_length ops before done (j ∷ more) = ap suc (joins_length ops before (done ++ input_of ops before j.source ∷ []) more)

beside_few : (ops : Operators) (before : Before) (js : List raw_joined.Joined) → AreJoined js → nat_lt 5 (length js) ≡ false
    → list_any wide_on (ons_of (inputs_of ops before js) js) ≡ false → IsBesideFew (beside_of ops before js)
beside_few ops before [] right most h = (omega arith, tt)
beside_few ops before (j ∷ []) right most h = (omega arith, tt)
beside_few ops before (j ∷ (k ∷ [])) right most h = go (outer_side k.side)
  where
    one : IsJoinFew (joined_of ops before (input_of ops before j.source ∷ []) k)
    one = (joins_few ops before (input_of ops before j.source ∷ []) (input_of ops before j.source ∷ []) (k ∷ []) right.1.1.1 h).0

    go : (o : Option Side) → IsBesideFew (beside_one ops before (input_of ops before j.source) k o)
    go None = (omega arith, (one, tt))
    go (Some side) = one
beside_few ops before (j ∷ (k ∷ (l ∷ more))) right most h =
    let e = joins_length ops before (input_of ops before j.source ∷ []) (k ∷ (l ∷ more)) in
    let m = at_most 5 (length (j ∷ (k ∷ (l ∷ more)))) most in
    (omega (arith, e, m), joins_few ops before (input_of ops before j.source ∷ []) (input_of ops before j.source ∷ []) (k ∷ (l ∷ more)) right.1.1.1 h)

-- ---- GROUP BY

-- a name that isn't ambiguous is of one column at most
named_once : IsOneInSight → (names : Scope) (r : RawRef) → AreDistinct names.entries → is_ambiguous names r ≡ false → length (named_by names r) ≤ 1
named_once one names r distinct h = let l = go (is_some r.alias) refl h in omega (arith, l, a, b)
  where
    a : length (named_by names r) ≡ length (filter (is_named r) names.entries)
    a = length-map (filter (is_named r) names.entries) (λ e. e.id)

    b : length (filter (is_named r) names.entries) ≡ count_by (is_named r) names.entries
    b = length-filter (is_named r) names.entries

    go : (t : Bool) → is_some r.alias ≡ t → (not t && nat_lt 1 (count_by (is_named r) names.entries)) ≡ false → count_by (is_named r) names.entries ≤ 1
    go true e k = one names r distinct e
    go false e k = at_most 1 (count_by (is_named r) names.entries) k

all_once : IsOneInSight → (names : Scope) (refs : List RawRef) → AreDistinct names.entries → list_any (is_ambiguous names) refs ≡ false → length (flat_map (named_by names) refs) ≤ length refs
all_once one names [] distinct h = omega arith
all_once one names (r ∷ refs) distinct h =
    let k = any_first (is_ambiguous names) r refs h in
    let l = named_once one names r distinct k.0 in
    let m = all_once one names refs distinct k.1 in
    let e = length-append (named_by names r) (flat_map (named_by names) refs) in omega (arith, l, m, e)

written_few : IsOneInSight → (names : Scope) (o : Option (List RawRef)) → AreDistinct names.entries → list_any wide (refs_opt names o) ≡ false → list_any doubtful (refs_opt names o) ≡ false
    → length (option_map_or (flat_map (named_by names)) o []) ≤ 4
written_few one names None distinct h k = omega arith
written_few one names (Some refs) distinct h k =
    let m = at_most 4 (length refs) (any_first wide (names, refs) [] h).0 in
    let l = all_once one names refs distinct (any_first doubtful (names, refs) [] k).0 in omega (arith, l, m)

grouping_few : IsOneInSight → (names : Scope) (s : Select) → AreDistinct names.entries → list_any wide (refs_opt names s.group) ≡ false → list_any doubtful (refs_opt names s.group) ≡ false
    → IsGroupingFew (grouping_of names s)
grouping_few one names s distinct h k = go (is_grouped s)
  where
    go : (b : Bool) → IsGroupingFew (cond {A = Option Grouping} b (Some (record { written = option_map_or (flat_map (named_by names)) s.group []; aggs = aggs_of names s.aggs })) None)
    go true = written_few one names s.group distinct h k
    go false = tt

-- ---- commands

top_ordered : (top : Option ℕ) (order : Option (List RawKey)) (names : Scope) → (is_some top && not (is_some order)) ≡ false → IsTopOrdered top (option_map (keys_of names) order)
top_ordered None order names h = tt
top_ordered (Some n) None names h = absurd (cc)
top_ordered (Some n) (Some keys) names h = tt

clear_keys : (a : Asked) (star : Bool) → (star || names_ambiguous a) ≡ false → list_any doubtful a.keys ≡ false
clear_keys a star h = (or_none (list_any doubtful a.keys) _ (or_none _ _ (or_none star (names_ambiguous a) h).1).1).0

unnamed : (name : Option (List ℕ)) → (is_some name ≡ true → false ≡ true) → name ≡ None
unnamed None h = refl
unnamed (Some n) h = absurd (let e : false ≡ true = h refl in cc)

-- a command is within the limits where its lists have something in them and these tests are false
command_within : IsOneInSight → (ops : Operators) (before : Before) (name : Option (List ℕ)) (c : raw_command.Command) → HasParts c → (is_some name ≡ true → can_be_named c ≡ true)
    → IsSightDistinct ops before c → has_many_keys (asked_by ops before c) ≡ false → list_any doubtful (asked_by ops before c).keys ≡ false
    → has_many_inputs c ≡ false → is_top_alone c ≡ false → IsCommandWithin name (resolved ops before c)
command_within one ops before name (raw.Extract cols stream call stored) parts can distinct keys clear most top =
    stored_few (sight_of_columns cols) (sight_of_columns cols) stored parts.1 (few_lists (keys_alone (stored_opt (sight_of_columns cols) stored)) keys).0
command_within one ops before name (raw.Select s) parts can distinct keys clear most top =
    let v = view_of ops before s in
    let lists = few_lists (asked_by_select s v) keys in
    let wides = any_parts wide (refs_opt v.names s.group) (keys_opt v.result s.order) lists.0 in
    let doubts = any_parts doubtful (refs_opt v.names s.group) (keys_opt v.result s.order) clear in (
      first_few ops s.sources,
      beside_few ops before s.sources parts.1.0 most lists.1,
      grouping_few one v.names s distinct wides.0 doubts.0,
      order_few v.result v.result s.order parts.1.1.1 wides.1,
      top_ordered s.top s.order v.result top,
    )
command_within one ops before name (raw.Process source call cols) parts can distinct keys clear most top = source_few ops source
command_within one ops before name (raw.Reduce source presort on call cols) parts can distinct keys clear most top =
    let names = sight_of (input_of_opt ops before source ∷ []) in
    let k = any_first wide (names, on) (keys_opt names presort) (few_lists (asked_by_reduce (input_of_opt ops before source) presort on) keys).0 in
    (source_few ops source, few (place_of names) on parts.1.0 k.0, order_few names names presort parts.0 k.1)
command_within one ops before name (raw.Combine left left_presort right right_presort on call cols) parts can distinct keys clear most top =
    let a = input_of ops before left in
    let b = input_of ops before right in
    let lists = few_lists (asked_by_combine a left_presort b right_presort on) keys in
    let wides = any_parts wide (keys_opt (sight_of (a ∷ [])) left_presort) (keys_opt (sight_of (b ∷ [])) right_presort) lists.0 in (
      origin_few ops left.origin,
      order_few (sight_of (a ∷ [])) (sight_of (a ∷ [])) left_presort parts.0 wides.0,
      origin_few ops right.origin,
      order_few (sight_of (b ∷ [])) (sight_of (b ∷ [])) right_presort parts.1.0 wides.1,
      few (pair_of (sides_of (a ∷ []) b)) on parts.1.1.0 (any_first wide_on (sides_of (a ∷ []) b, on) [] lists.1).0,
    )
command_within one ops before name (raw.Output source stream outputter stored) parts can distinct keys clear most top =
    let names = sight_of_columns (heading_at before source) in
    (unnamed name can, stored_few names names stored parts (few_lists (keys_alone (stored_opt names stored)) keys).0)

all_within : IsOneInSight → (ops : Operators) (at : Place) (rest : List Statement) → All IsRight rest → AreSightsDistinct ops at.before rest → AreCauseless ops at rest
    → AreWithin (resolved_all ops at.before rest)
all_within one ops at [] right distinct h = tt
all_within one ops at (s ∷ rest) right distinct h =
    let is = All-head IsRight s rest right in
    let none = h.0 in (
      command_within one ops at.before s.name s.command is.0 is.1 distinct.0 none.few_keys
          (clear_keys (asked_by ops at.before s.command) _ none.clear) none.few_inputs none.ordered,
      all_within one ops (next ops at s) rest (All-tail IsRight s rest right) distinct.1 h.1,
    )

-- ---- statements and shared results

statements_few : (ops : Operators) (at : Place) (s : Statement) (rest : List Statement) → AreCauseless ops at (s ∷ rest) → length at.before.statements + length rest ≤ 63
statements_few ops at s [] h = let l = at_most 63 (length at.before.statements) h.0.few_statements in omega (arith, l)
statements_few ops at s (t ∷ rest) h =
    let l = statements_few ops (next ops at s) t rest h.1 in
    let e = length_push at.before.statements s in omega (arith, l, e)

shared_few : (ops : Operators) (at : Place) (s : Statement) (rest : List Statement) → AreCauseless ops at (s ∷ rest)
    → shared_among (at.near ++ mentions at.before.statements (s ∷ rest)) (length at.before.statements + length rest) ≤ 4
shared_few ops at s [] h =
    let m = mentions_in at.before.statements s.command in
    let l = at_most 4 (shared_among (at.near ++ m) (length at.before.statements)) h.0.few_shared in
    let z : length at.before.statements ≡ length at.before.statements + 0 = omega arith in
    let e : shared_among (at.near ++ m) (length at.before.statements) ≡ shared_among (at.near ++ (m ++ [])) (length at.before.statements + 0)
    = ap₂ (λ ms n. shared_among (at.near ++ ms) n) (sym (append-nil m)) z in
    subst (λ n. n ≤ 4) e l
shared_few ops at s (t ∷ rest) h =
    let m = mentions_in at.before.statements s.command in
    let more = mentions (at.before.statements ++ s ∷ []) (t ∷ rest) in
    let l = shared_few ops (next ops at s) t rest h.1 in
    let p = length_push at.before.statements s in
    let z : length (at.before.statements ++ s ∷ []) + length rest ≡ length at.before.statements + suc (length rest) = omega (arith, p) in
    let e : shared_among ((at.near ++ m) ++ more) (length (at.before.statements ++ s ∷ []) + length rest) ≡ shared_among (at.near ++ (m ++ more)) (length at.before.statements + suc (length rest))
    = ap₂ (λ ms n. shared_among ms n) (append_assoc at.near m more) z in
    subst (λ n. n ≤ 4) e l

-- ---- a result is mentioned by later statements alone

pub places_append : (n : ℕ) (xs ys : List ℕ) → ArePlaces n xs → ArePlaces n ys → ArePlaces n (xs ++ ys)
places_append n [] ys h k = k
places_append n (x ∷ xs) ys h k = (h.0, places_append n xs ys h.1 k)

pub input_below : (xs : List Statement) (i : Option (List ℕ)) (k : ℕ) → input_at xs i ≡ Some k → k < length xs
input_below xs (Some n) k h = go _ (length xs) _ refl h
  where
    go : (p l : ℕ) (b : Bool) → nat_lt p l ≡ b → cond {A = Option ℕ} b (Some p) None ≡ Some k → k < l
    go p l true e q = let same : p ≡ k = cc in let lt : p < l = grind (arith, nat_tests, e) in omega (arith, same, lt)
    go p l false e q = absurd (cc)
input_below xs None k h = go (slice_get xs m) refl h
  where
    m : ℕ
    m = length xs - 1

    go : (o : Option Statement) → slice_get xs m ≡ o → result_of o m ≡ Some k → k < length xs
    go None e q = absurd (cc)
    go (Some s) e q = at (gives s.command) q
      where
        at : (b : Bool) → cond {A = Option ℕ} b (Some m) None ≡ Some k → k < length xs
        at true q = let same : m ≡ k = cc in let lt = slice_get_within xs m s e in omega (arith, same, lt)
        at false q = absurd (cc)

one_below : (n : ℕ) (xs : List Statement) (o : Option ℕ) → ((k : ℕ) → o ≡ Some k → k < length xs) → length xs ≤ n → ArePlaces n (one_or_none o)
one_below n xs None h l = tt
one_below n xs (Some k) h l = let lt = h k refl in (omega (arith, lt, l), tt)

mentioned_below : (n : ℕ) (xs : List Statement) (is : List (Option (List ℕ))) → length xs ≤ n → ArePlaces n (flat_map (λ i. one_or_none (input_at xs i)) is)
mentioned_below n xs [] l = tt
mentioned_below n xs (i ∷ is) l =
    places_append n (one_or_none (input_at xs i)) (flat_map (λ i. one_or_none (input_at xs i)) is) (one_below n xs (input_at xs i) (input_below xs i) l) (mentioned_below n xs is l)

pub mentions_below : (n : ℕ) (xs rest : List Statement) → length xs + length rest ≤ n + 1 → ArePlaces n (mentions xs rest)
mentions_below n xs [] l = tt
mentions_below n xs (s ∷ rest) l =
    let p = length_push xs s in
    places_append n (mentions_in xs s.command) (mentions (xs ++ s ∷ []) rest) (mentioned_below n xs (inputs s.command) (omega (arith, l))) (mentions_below n (xs ++ s ∷ []) rest (omega (arith, l, p)))

never : (n : ℕ) (ms : List ℕ) → ArePlaces n ms → count_by (λ m. m == n) ms ≡ 0
never n [] h = refl
never n (m ∷ ms) h = go (m == n) refl (count-cons (λ m. m == n) m ms) (never n ms h.1)
  where
    go : (b : Bool) → (m == n) ≡ b → count_by (λ m. m == n) (m ∷ ms) ≡ cond {A = ℕ} b 1 0 + count_by (λ m. m == n) ms → count_by (λ m. m == n) ms ≡ 0 → count_by (λ m. m == n) (m ∷ ms) ≡ 0
    go true e c z = absurd (let q = from_test m n e in let lt = h.0 in omega (arith, q, lt))
    go false e c z = omega (arith, c, z)

unshared : (n : ℕ) (ms : List ℕ) → ArePlaces n ms → is_shared ms n ≡ false
unshared n ms h = let z = never n ms h in grind (arith, nat_tests, z)

-- one more number that doesn't pass changes nothing
last_out : (p : ℕ → Bool) (n : ℕ) → p n ≡ false → filter p (range_with_len 0 (n + 1)) ≡ filter p (range_with_len 0 n)
last_out p n h = sym (range_step p n (filter p (range_with_len 0 n)) (filter p (range_with_len 0 n)) false refl h refl)

-- ---- the whole script

pub all_few : IsOneInSight → (ops : Operators) (xs : List Statement) → All IsRight xs → AreSightsDistinct ops (start xs).before xs → AreCauseless ops (start xs) xs
    → IsWithin (resolved_all ops (start xs).before xs)
all_few one ops [] right distinct h = record { few = omega arith; each = tt; shares = omega arith }
all_few one ops (s ∷ rest) right distinct h = record { few = many; each = all_within one ops (start (s ∷ rest)) (s ∷ rest) right distinct h; shares = shared }
  where
    before : Before
    before = (start (s ∷ rest)).before

    long : length (s ∷ rest) ≡ length (resolved_all ops before (s ∷ rest))
    long = alike_length (s ∷ rest) (resolved_all ops before (s ∷ rest)) (alike_resolved ops before (s ∷ rest))

    many : length (resolved_all ops before (s ∷ rest)) ≤ 64
    many = let l = statements_few ops (start (s ∷ rest)) s rest h in omega (arith, l, long)

    first : length (filter (is_shared (mentions [] (s ∷ rest))) (range_with_len 0 (length rest))) ≤ 4
    first =
        let z : length {A = Statement} [] + length rest ≡ length rest = omega arith in
        subst (λ n. length (filter (is_shared (mentions [] (s ∷ rest))) (range_with_len 0 n)) ≤ 4) z (shared_few ops (start (s ∷ rest)) s rest h)

    second : length (filter (is_shared (mentions [] (s ∷ rest))) (range_with_len 0 (length rest + 1))) ≤ 4
    second =
        let alone = unshared (length rest) (mentions [] (s ∷ rest)) (mentions_below (length rest) [] (s ∷ rest) (omega arith)) in
        subst (λ l. length l ≤ 4) (sym (last_out (is_shared (mentions [] (s ∷ rest))) (length rest) alone)) first

    shared : length (filter (bound.is_shared (bound.mentions [] (resolved_all ops before (s ∷ rest)))) (range_with_len 0 (length (resolved_all ops before (s ∷ rest))))) ≤ 4
    shared =
        let z : length rest + 1 ≡ length (resolved_all ops before (s ∷ rest)) = omega (arith, long) in
        subst (λ ms. length (filter (is_shared ms) (range_with_len 0 (length (resolved_all ops before (s ∷ rest))))) ≤ 4) (mentions_same ops before (s ∷ rest))
        (subst (λ n. length (filter (is_shared (mentions [] (s ∷ rest))) (range_with_len 0 n)) ≤ 4) z second)
