-- What a SELECT of a script without causes sees is told apart by alias and name.
use Rattle.std.proofs.Common.{◌≡◌, ℕ, zero, suc, ◌+◌, Bool, true, false, ◌||◌, ◌&&◌, List, [], ◌∷◌, ◌++◌, map, flat_map, length, refl, ap, ◌∙◌, arith, Option, Some, None, slice_get, ◌≢◌}
use Rattle.std.specs.Prelude.{AllPairs}
use Rattle.std.specs.Option.{option_map_or, option_and_then}
use Rattle.std.specs.List.{All, list_any}
use Rattle.std.specs.Str.{bytes_eq}
use Rattle.std.proofs.lemmas.List.Elements.{All-nil, All-cons, All-head, All-tail}
use Rattle.std.proofs.lemmas.List.Kept.{AllPairs-cons}
use Rattle.std.proofs.lemmas.Slice.Eq.{bytes_eq-Decides}
use Rattle.scope_value.specs.declared.schema.Column.{Column}
use Rattle.script_trees.specs.declared.command.Command as raw_command
use Rattle.script_trees.specs.declared.command.Command.TheVariants as raw
use Rattle.script_trees.specs.declared.item.Item.{Item}
use Rattle.script_trees.specs.declared.item.Items.{Items}
use Rattle.script_trees.specs.declared.item.Items.TheVariants as listing
use Rattle.script_trees.specs.declared.script.Statement.{Statement}
use Rattle.script_trees.specs.declared.select.Joined.{Joined}
use Rattle.script_trees.specs.declared.source.Origin.{Origin}
use Rattle.script_trees.specs.declared.source.Origin.TheVariants.{Named, Stream}
use Rattle.scope_expr.specs.declared.expr.Expr.TheVariants.{Col}
use Rattle.scope_expr.specs.declared.scope.Entry.{Entry}
use Rattle.scope_expr.specs.declared.scope.Scope.{Scope}
use Rattle.scope_expr.specs.Names.{bound}
use Rattle.scope_expr.specs.Sight.{have_one_alias, clash, AreDistinct}
use Rattle.user_ops.specs.Told.{Operators, ToldExtractor}
use Rattle.user_ops.specs.Extracts.{AreFixedColumns}
use Rattle.names_in_sight.specs.declared.input.Input.{Input}
use Rattle.names_in_sight.specs.Sight.{seen_from, sight_from}
use Rattle.names_in_sight.specs.Operators.{place_in, inline_columns}
use Rattle.names_in_sight.specs.Inputs.{Before, input_at, heading_at, columns_of, input_of, input_of_opt, inputs_of}
use Rattle.names_in_sight.specs.Views.{outputs_of, heading, view_of}
use Rattle.name_resolution.specs.Resolved.{heading_of}
use Rattle.binding_causes.specs.Columns.{repeats, is_star_double, has_double_star}
use Rattle.binding_causes.specs.Names.{name_opt, aliases, has_double_alias, has_double_item, has_double_column, declares_twice}
use Rattle.binding_causes.specs.Resolution.{Place, next, start}
use Rattle.resolution_laws.specs.Causeless.{AreCauseless}
use Rattle.resolution_laws.specs.LimitLaws.{IsSightDistinct, AreSightsDistinct, AreAllFixed, GivesDistinct}
use Rattle.resolution_laws.proofs.Causeless.{causeless}
use Rattle.resolution_laws.proofs.Limits.{or_none, any_first, any_parts}

-- ---- columns of different names

-- the columns of each have different names
abbrev ArePlain : List (List Column) → Type 0
ArePlain [] = Unit {0}
ArePlain (cols ∷ more) = (has_double_column cols ≡ false) × ArePlain more

plain_more : (hs : List (List Column)) (cols : List Column) → ArePlain hs → has_double_column cols ≡ false → ArePlain (hs ++ cols ∷ [])
plain_more [] cols h k = (k, tt)
plain_more (x ∷ hs) cols h k = (h.0, plain_more hs cols h.1 k)

got_plain : (hs : List (List Column)) (k : ℕ) → ArePlain hs → has_double_column (option_map_or (λ cs. cs) (slice_get hs k) []) ≡ false
got_plain [] k h = refl
got_plain (x ∷ hs) zero h = h.0
got_plain (x ∷ hs) (suc k) h = got_plain hs k h.1

heading_plain : (before : Before) (i : Option (List ℕ)) → ArePlain before.headings → has_double_column (heading_at before i) ≡ false
heading_plain before i h = go (input_at before.statements i)
  where
    go : (o : Option ℕ) → has_double_column (option_map_or (λ cs. cs) (option_and_then (λ k. slice_get before.headings k) o) []) ≡ false
    go None = refl
    go (Some k) = got_plain before.headings k h

none_equal : (x : List ℕ) (xs : List (List ℕ)) → All (λ y. x ≢ y) xs → list_any (bytes_eq x) xs ≡ false
none_equal x [] h = refl
none_equal x (y ∷ xs) h = go (bytes_eq x y) refl (none_equal x xs (All-tail (λ y. x ≢ y) y xs h))
  where
    go : (b : Bool) → bytes_eq x y ≡ b → list_any (bytes_eq x) xs ≡ false → (b || list_any (bytes_eq x) xs) ≡ false
    go true e k = absurd (All-head (λ y. x ≢ y) y xs h ((bytes_eq-Decides x y).0 e))
    go false e k = k

none_repeats : (xs : List (List ℕ)) → AllPairs (λ a b. a ≢ b) xs → repeats bytes_eq xs ≡ false
none_repeats [] h = refl
none_repeats (x ∷ xs) h =
    go _ (none_equal x xs (λ k d l. h 0 (suc k) d (omega arith) (omega arith))) (none_repeats xs (λ i j d l m. h (suc i) (suc j) d (omega arith) (omega arith)))
  where
    go : (b : Bool) → b ≡ false → repeats bytes_eq xs ≡ false → (b || repeats bytes_eq xs) ≡ false
    go true e k = absurd (cc)
    go false e k = k

fixed_plain : (ops : Operators) (name : List ℕ) → AreAllFixed ops → has_double_column (inline_columns ops name) ≡ false
fixed_plain ops name h = go (place_in ops.extractor_names name)
  where
    opt : (o : Option (List Column)) → AreFixedColumns o → has_double_column (option_map_or (λ cs. cs) o []) ≡ false
    opt None k = refl
    opt (Some cols) k = none_repeats (map (λ c. c.name) cols) k.1

    told : (es : List ToldExtractor) (p : ℕ) → All (λ (e : ToldExtractor). AreFixedColumns e.fixed_columns) es
        → has_double_column (option_map_or (λ cs. cs) (option_and_then (λ (e : ToldExtractor). e.fixed_columns) (slice_get es p)) []) ≡ false
    told [] p k = refl
    told (e ∷ es) zero k = opt e.fixed_columns (All-head (λ (e : ToldExtractor). AreFixedColumns e.fixed_columns) e es k)
    told (e ∷ es) (suc p) k = told es p (All-tail (λ (e : ToldExtractor). AreFixedColumns e.fixed_columns) e es k)

    go : (o : Option ℕ) → has_double_column (option_map_or (λ cs. cs) (option_and_then (λ (e : ToldExtractor). e.fixed_columns) (option_and_then (λ p. slice_get ops.extractors p) o)) []) ≡ false
    go None = refl
    go (Some p) = told ops.extractors p h

-- ---- columns in sight

abbrev Apart : Entry → Entry → Type 0
Apart a b = clash a b ≡ false

-- the entry is under no column of this alias
abbrev IsBeside : Option (List ℕ) → Entry → Type 0
IsBeside alias b = have_one_alias alias b.alias ≡ false

and_left : (a b : Bool) → a ≡ false → (a && b) ≡ false
and_left true b h = absurd (cc)
and_left false b h = refl

and_right : (a b : Bool) → b ≡ false → (a && b) ≡ false
and_right true b h = h
and_right false b h = refl

one_apart : (e : Entry) (alias : Option (List ℕ)) (at : ℕ) (cs : List Column) (more : List Entry)
    → list_any (bytes_eq e.name) (map (λ c. c.name) cs) ≡ false → All (IsBeside e.alias) more → All (Apart e) (seen_from alias at cs ++ more)
one_apart e alias at [] more h k = λ i d l. and_right _ _ (k i d l)
one_apart e alias at (c ∷ cs) more h k =
    let n = any_first (bytes_eq e.name) c.name (map (λ c. c.name) cs) h in
    All-cons (Apart e) (record { alias = alias; name = c.name; id = at; kind = c.kind }) (seen_from alias (at + 1) cs ++ more) (and_left _ _ n.0) (one_apart e alias (at + 1) cs more n.1 k)

seen_distinct : (alias : Option (List ℕ)) (at : ℕ) (cs : List Column) (more : List Entry)
    → has_double_column cs ≡ false → All (IsBeside alias) more → AreDistinct more → AreDistinct (seen_from alias at cs ++ more)
seen_distinct alias at [] more h k distinct = distinct
seen_distinct alias at (c ∷ cs) more h k distinct =
    let n = or_none (list_any (bytes_eq c.name) (map (λ c. c.name) cs)) (repeats bytes_eq (map (λ c. c.name) cs)) h in
    AllPairs-cons Apart (record { alias = alias; name = c.name; id = at; kind = c.kind }) (seen_from alias (at + 1) cs ++ more)
    (one_apart (record { alias = alias; name = c.name; id = at; kind = c.kind }) alias (at + 1) cs more n.0 k) (seen_distinct alias (at + 1) cs more n.1 k distinct)

abbrev names_of : List Input → List (List ℕ)
names_of inputs = flat_map (λ i. name_opt i.alias) inputs

seen_beside : (a : List ℕ) (alias : Option (List ℕ)) (at : ℕ) (cs : List Column) (more : List Entry)
    → have_one_alias (Some a) alias ≡ false → All (IsBeside (Some a)) more → All (IsBeside (Some a)) (seen_from alias at cs ++ more)
seen_beside a alias at [] more h k = k
seen_beside a alias at (c ∷ cs) more h k =
    All-cons (IsBeside (Some a)) (record { alias = alias; name = c.name; id = at; kind = c.kind }) (seen_from alias (at + 1) cs ++ more) h (seen_beside a alias (at + 1) cs more h k)

other_alias : (a : List ℕ) (o : Option (List ℕ)) → list_any (bytes_eq a) (name_opt o) ≡ false → have_one_alias (Some a) o ≡ false
other_alias a None h = refl
other_alias a (Some b) h = (any_first (bytes_eq a) b [] h).0

all_beside : (a : List ℕ) (at : ℕ) (inputs : List Input) → list_any (bytes_eq a) (names_of inputs) ≡ false → All (IsBeside (Some a)) (sight_from at inputs)
all_beside a at [] h = All-nil (IsBeside (Some a))
all_beside a at (i ∷ inputs) h =
    let k = any_parts (bytes_eq a) (name_opt i.alias) (names_of inputs) h in
    seen_beside a i.alias at i.columns (sight_from (at + length i.columns) inputs) (other_alias a i.alias k.0) (all_beside a (at + length i.columns) inputs k.1)

sight_distinct : (at : ℕ) (inputs : List Input) → ArePlain (map (λ i. i.columns) inputs) → repeats bytes_eq (names_of inputs) ≡ false → AreDistinct (sight_from at inputs)
sight_distinct at [] plain h = λ i j d l m. absurd (omega arith)
sight_distinct at (i ∷ inputs) plain h = go i.alias h (λ k. sight_distinct (at + length i.columns) inputs plain.1 k)
  where
    more : List Entry
    more = sight_from (at + length i.columns) inputs

    go : (o : Option (List ℕ)) → repeats bytes_eq (name_opt o ++ names_of inputs) ≡ false → (repeats bytes_eq (names_of inputs) ≡ false → AreDistinct more)
        → AreDistinct (seen_from o at i.columns ++ more)
    go None k rest = seen_distinct None at i.columns more plain.0 (λ j d l. refl) (rest k)
    go (Some a) k rest =
        let n = or_none (list_any (bytes_eq a) (names_of inputs)) (repeats bytes_eq (names_of inputs)) k in
        seen_distinct (Some a) at i.columns more plain.0 (all_beside a (at + length i.columns) inputs n.0) (rest n.1)

-- ---- the inputs of a SELECT

origin_plain : (ops : Operators) (before : Before) (o : Origin) → AreAllFixed ops → ArePlain before.headings → has_double_column (columns_of ops before o) ≡ false
origin_plain ops before (Named n) fixed plain = heading_plain before (Some n) plain
origin_plain ops before (Stream name call) fixed plain = fixed_plain ops call.op fixed

inputs_plain : (ops : Operators) (before : Before) (js : List Joined) → AreAllFixed ops → ArePlain before.headings
    → ArePlain (map (λ i. i.columns) (map (λ j. input_of ops before j.source) js))
inputs_plain ops before [] fixed plain = tt
inputs_plain ops before (j ∷ js) fixed plain = (origin_plain ops before j.source.origin fixed plain, inputs_plain ops before js fixed plain)

aliases_same : (ops : Operators) (before : Before) (js : List Joined) → names_of (map (λ j. input_of ops before j.source) js) ≡ flat_map (λ j. aliases j.source) js
aliases_same ops before [] = refl
aliases_same ops before (j ∷ js) = ap (λ ns. aliases j.source ++ ns) (aliases_same ops before js)

from_distinct : (ops : Operators) (before : Before) (js : List Joined) → AreAllFixed ops → ArePlain before.headings
    → repeats bytes_eq (flat_map (λ j. aliases j.source) js) ≡ false → AreDistinct (sight_from 0 (inputs_of ops before js))
from_distinct ops before [] fixed plain h = sight_distinct 0 (input_of_opt ops before None ∷ []) (heading_plain before None plain, tt) refl
from_distinct ops before (j ∷ js) fixed plain h =
    sight_distinct 0 (map (λ j. input_of ops before j.source) (j ∷ js)) (inputs_plain ops before (j ∷ js) fixed plain)
    (ap (repeats bytes_eq) (aliases_same ops before (j ∷ js)) ∙ h)

command_distinct : (ops : Operators) (before : Before) (c : raw_command.Command) → AreAllFixed ops → ArePlain before.headings → has_double_alias c ≡ false → IsSightDistinct ops before c
command_distinct ops before (raw.Extract cols stream call stored) fixed plain h = tt
command_distinct ops before (raw.Select s) fixed plain h = from_distinct ops before s.sources fixed plain h
command_distinct ops before (raw.Process source call cols) fixed plain h = tt
command_distinct ops before (raw.Reduce source presort on call cols) fixed plain h = tt
command_distinct ops before (raw.Combine left left_presort right right_presort on call cols) fixed plain h = tt
command_distinct ops before (raw.Output source stream outputter stored) fixed plain h = tt

-- ---- what each result's columns are called

item_names : (names : Scope) (items : List Item) → map (λ c. c.name) (heading (map (λ (x : Item). (x.name, bound names x.expr)) items)) ≡ map (λ (x : Item). x.name) items
item_names names [] = refl
item_names names (x ∷ items) = ap (λ ns. x.name ∷ ns) (item_names names items)

entry_names : (es : List Entry) → map (λ c. c.name) (heading (map (λ (e : Entry). (e.name, Col e.id e.kind)) es)) ≡ map (λ (e : Entry). e.name) es
entry_names [] = refl
entry_names (e ∷ es) = ap (λ ns. e.name ∷ ns) (entry_names es)

outputs_plain : (names : Scope) (items : Items) → has_double_item items ≡ false → is_star_double names items ≡ false → has_double_column (heading (outputs_of names items)) ≡ false
outputs_plain names listing.All item star = ap (repeats bytes_eq) (entry_names names.entries) ∙ star
outputs_plain names (listing.Listed items) item star = ap (repeats bytes_eq) (item_names names items) ∙ item

result_plain : (ops : Operators) (before : Before) (c : raw_command.Command) → declares_twice c ≡ false → has_double_star ops before c ≡ false → has_double_column (heading_of ops before c) ≡ false
result_plain ops before (raw.Extract cols stream call stored) d star = d
result_plain ops before (raw.Select s) d star = outputs_plain (view_of ops before s).inner s.items d star
result_plain ops before (raw.Process source call cols) d star = d
result_plain ops before (raw.Reduce source presort on call cols) d star = d
result_plain ops before (raw.Combine left left_presort right right_presort on call cols) d star = d
result_plain ops before (raw.Output source stream outputter stored) d star = refl

-- ---- the whole script

all_distinct : (ops : Operators) (at : Place) (rest : List Statement) → AreAllFixed ops → ArePlain at.before.headings → AreCauseless ops at rest → AreSightsDistinct ops at.before rest
all_distinct ops at [] fixed plain h = tt
all_distinct ops at (s ∷ rest) fixed plain h =
    let single = or_none (has_double_alias s.command) _ (or_none _ _ h.0.single).1 in
    let star = or_none (has_double_star ops at.before s.command) _ h.0.clear in
    let twice = or_none (declares_twice s.command) _ single.1 in
    let named = plain_more at.before.headings (heading_of ops at.before s.command) plain (result_plain ops at.before s.command twice.0 star.0) in
    (command_distinct ops at.before s.command fixed plain single.0, all_distinct ops (next ops at s) rest fixed named h.1)

pub distinct_in_sight : GivesDistinct
distinct_in_sight ops script statements fixed h = all_distinct ops (start script.statements) script.statements fixed tt (causeless ops script statements h).causeless
