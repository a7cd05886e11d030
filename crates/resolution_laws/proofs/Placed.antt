-- A script that binds names what is there, statement by statement.
use Rattle.std.proofs.Common.{◌≡◌, ℕ, suc, ◌+◌, ◌<◌, Bool, false, ◌||◌, List, [], ◌∷◌, ◌++◌, map, flat_map, length, append_assoc, append-nil, refl, sym, ap, ap₂, ◌∙◌, subst, arith, Option, Some, None}
use Rattle.std.specs.List.{All, list_any}
use Rattle.std.proofs.lemmas.List.{length-append, length-map}
use Rattle.std.proofs.lemmas.List.Elements.{All-head, All-tail, All-push}
use Rattle.std.proofs.lemmas.List.FromFn.{length-range_with_len}
use Rattle.std.proofs.lemmas.Grind.{flat_map-append}
use Rattle.script_trees.specs.declared.command.Command as raw_command
use Rattle.script_trees.specs.declared.command.Command.TheVariants as raw
use Rattle.script_trees.specs.declared.raw.RawRef.{RawRef}
use Rattle.script_trees.specs.declared.script.Statement as raw_statement
use Rattle.script_trees.specs.declared.select.Joined as raw_joined
use Rattle.scope_expr.specs.Names.{has_unknown}
use Rattle.scope_syntax.specs.Written.{HasSome, AreJoined, HasParts, IsRight}
use Rattle.user_ops.specs.Told.{Operators}
use Rattle.outer_joins.specs.declared.side.Side.{Side}
use Rattle.placed_trees.specs.declared.statement.Statement.{Statement}
use Rattle.names_in_sight.specs.declared.input.Input.{Input}
use Rattle.names_in_sight.specs.declared.sides.Sides.{Sides}
use Rattle.names_in_sight.specs.Inputs.{Before, columns_of_all, heading_at, input_of, input_of_opt, inputs_of}
use Rattle.names_in_sight.specs.Sight.{sight_of, sight_of_columns}
use Rattle.names_in_sight.specs.Views.{outer_side, sides_of, pairs_of, view_of}
use Rattle.name_resolution.specs.Queries.{resolved_origin, first_source, joins_from, outer_call, beside_one, beside_of}
use Rattle.name_resolution.specs.Resolved.{source_of, resolved, resolved_statement, heading_of, after}
use Rattle.binding_causes.specs.Asked.{Asked, refs_opt, keys_opt, ons_from, ons_of, asked_by}
use Rattle.binding_causes.specs.Columns.{has_no_sides, names_unknown}
use Rattle.binding_causes.specs.Names.{origin_inputs, from_inputs, has_unknown_name}
use Rattle.binding_causes.specs.Resolution.{Place, next, start}
use Rattle.script_meaning.specs.Part.{Part, joined_part}
use Rattle.script_meaning.specs.Bound.{source_part, from_part, beside_part, bound, mentions}
use Rattle.script_meaning.specs.Placed.{IsOn, IsSourceThere, AreJoinsPlaced, IsBesidePlaced, IsCommandPlaced, ArePlaced, IsPlaced}
use Rattle.resolution_laws.specs.Causeless.{resolved_all, AreCauseless}
use Rattle.resolution_laws.specs.PlaceLaws.{GivesPlaced}
use Rattle.resolution_laws.proofs.Causeless.{causeless}
use Rattle.resolution_laws.proofs.Mentions.{alike_more}
use Rattle.resolution_laws.proofs.SightPlaces.{neither, none_left, IsSightBelow, sight_below, columns_below, places_below, are_unknown, keys_opt_below, stored_below, pairs_below}
use Rattle.resolution_laws.proofs.ViewPlaces.{query_placed}
use Rattle.resolution_laws.proofs.Headings.{wide_more, IsBefore, is_missing, one_input, input_wide, input_there, origin_wide, source_wide, origin_there, source_there, one_below, command_wide}

-- some equality has no sides where it stands
abbrev are_apart : Sides × List (RawRef × RawRef) → Bool
are_apart on = list_any (has_no_sides on.0) on.1

-- ---- what isn't unknown

keys_known : (a : Asked) → names_unknown a ≡ false → list_any are_unknown a.keys ≡ false
keys_known a h =
    (neither (list_any are_unknown a.keys) (list_any are_apart a.ons)
    (neither (list_any (λ e. has_unknown e.0 e.1) a.exprs) (list_any are_unknown a.keys || list_any are_apart a.ons) h).1).0

ons_known : (a : Asked) → names_unknown a ≡ false → list_any are_apart a.ons ≡ false
ons_known a h =
    (neither (list_any are_unknown a.keys) (list_any are_apart a.ons)
    (neither (list_any (λ e. has_unknown e.0 e.1) a.exprs) (list_any are_unknown a.keys || list_any are_apart a.ons) h).1).1

-- ---- FROM

added_wide : (done : List Input) (i : Input) (on : List (ℕ × ℕ)) (a b : Part) → length a.cols ≡ length (columns_of_all done) → length b.cols ≡ length i.columns
    → length (joined_part on a b).cols ≡ length (columns_of_all (done ++ i ∷ []))
added_wide done i on a b e f =
    length-append a.cols (map (λ p. a.count + p) b.cols)
    ∙ ap₂ (λ m n. m + n) e (length-map b.cols (λ p. a.count + p) ∙ f ∙ sym (one_input i))
    ∙ sym (length-append (columns_of_all done) (columns_of_all (i ∷ [])))
    ∙ ap length (sym (flat_map-append (λ (x : Input). x.columns) done (i ∷ [])))

module _ (ops : Operators) (all : List ℕ) (before : Before) (earlier : List Statement) (env : List Part) (is : IsBefore before earlier env) where
  abbrev part_of : raw_joined.Joined → Part
  part_of j = source_part all earlier env (resolved_origin ops j.source.origin)

  abbrev seen_of : raw_joined.Joined → Input
  seen_of j = input_of ops before j.source

  part_wide : (j : raw_joined.Joined) → length (part_of j).cols ≡ length (seen_of j).columns
  part_wide j = sym (origin_wide ops all before earlier env is j.source.origin)

  on_placed : (done : List Input) (i : Input) (a b : Part) → length a.cols ≡ length (columns_of_all done) → length b.cols ≡ length i.columns
      → (on : List (RawRef × RawRef)) → list_any (has_no_sides (sides_of done i)) on ≡ false → HasSome on → IsOn a b (pairs_of (sides_of done i) on)
  on_placed done i a b e f on known some = (
    subst (λ (n : ℕ). 0 < n) (sym (length_pairs on)) some,
    pairs_below (length a.cols) (length b.cols) (sides_of done i) (subst (λ (n : ℕ). IsSightBelow n (sight_of done)) (sym e) (sight_below done))
        (one_below ops all before earlier env is i b (sym f)) on known,
  )
    where
      length_pairs : (xs : List (RawRef × RawRef)) → length (pairs_of (sides_of done i) xs) ≡ length xs
      length_pairs [] = refl
      length_pairs (x ∷ xs) = ap suc (length_pairs xs)

  joins_placed : (js : List raw_joined.Joined) (done : List Input) (a : Part) → length a.cols ≡ length (columns_of_all done)
      → list_any (is_missing before.statements) (flat_map (λ j. origin_inputs j.source.origin) js) ≡ false
      → list_any are_apart (ons_from done (map (λ j. input_of ops before j.source) js) js) ≡ false
      → All (λ (j : raw_joined.Joined). HasSome j.on) js → AreJoinsPlaced all earlier env a (joins_from ops before done js)
  joins_placed [] done a e m u some = tt
  joins_placed (j ∷ js) done a e m u some =
      let missing = none_left (is_missing before.statements) (origin_inputs j.source.origin) (flat_map (λ j. origin_inputs j.source.origin) js) m in
      let unknown = neither (are_apart (sides_of done (seen_of j), j.on)) (list_any are_apart (ons_from (done ++ seen_of j ∷ []) (map (λ j. input_of ops before j.source) js) js)) u in (
        origin_there ops all before earlier env is j.source.origin missing.0,
        on_placed done (seen_of j) a (part_of j) e (part_wide j) j.on unknown.0 (All-head (λ (j : raw_joined.Joined). HasSome j.on) j js some),
        joins_placed js (done ++ seen_of j ∷ []) (joined_part (pairs_of (sides_of done (seen_of j)) j.on) a (part_of j))
            (added_wide done (seen_of j) (pairs_of (sides_of done (seen_of j)) j.on) a (part_of j) e (part_wide j)) missing.1 unknown.1
            (All-tail (λ (j : raw_joined.Joined). HasSome j.on) j js some),
      )

  from_wide : (js : List raw_joined.Joined) (done : List Input) (a : Part) → length a.cols ≡ length (columns_of_all done)
      → length (from_part all earlier env a (joins_from ops before done js)).cols ≡ length (columns_of_all (done ++ map (λ j. input_of ops before j.source) js))
  from_wide [] done a e = e ∙ ap (λ (xs : List Input). length (columns_of_all xs)) (sym (append-nil done))
  from_wide (j ∷ js) done a e =
      from_wide js (done ++ seen_of j ∷ []) (joined_part (pairs_of (sides_of done (seen_of j)) j.on) a (part_of j))
      (added_wide done (seen_of j) (pairs_of (sides_of done (seen_of j)) j.on) a (part_of j) e (part_wide j))
      ∙ ap (λ (xs : List Input). length (columns_of_all xs)) (append_assoc done (seen_of j ∷ []) (map (λ j. input_of ops before j.source) js))

  -- the sources are there, and as wide as what names see of them
  record IsFrom (js : List raw_joined.Joined) : Type 0 where
    there : IsSourceThere earlier env (first_source ops js)
    placed : IsBesidePlaced all earlier env (source_part all earlier env (first_source ops js)) (beside_of ops before js)
    wide : length (beside_part all earlier env (source_part all earlier env (first_source ops js)) (beside_of ops before js)).cols ≡ length (columns_of_all (inputs_of ops before js))

  first_wide : (j : raw_joined.Joined) → length (part_of j).cols ≡ length (columns_of_all (seen_of j ∷ []))
  first_wide j = part_wide j ∙ sym (one_input (seen_of j))

  from_placed : (js : List raw_joined.Joined) → list_any (is_missing before.statements) (from_inputs js) ≡ false
      → list_any are_apart (ons_of (inputs_of ops before js) js) ≡ false → AreJoined js → IsFrom js
  from_placed [] m u joined = record {
    there = source_there ops all before earlier env is None m;
    placed = tt;
    wide = sym (source_wide ops all before earlier env is None) ∙ sym (one_input (input_of_opt ops before None));
  }
  from_placed (j ∷ []) m u joined = record {
    there = origin_there ops all before earlier env is j.source.origin (none_left (is_missing before.statements) (origin_inputs j.source.origin) [] m).0;
    placed = tt;
    wide = first_wide j;
  }
  from_placed (j ∷ (k ∷ [])) m u joined =
      let missing = none_left (is_missing before.statements) (origin_inputs j.source.origin) (flat_map (λ j. origin_inputs j.source.origin) (k ∷ [])) m in
      let both = go (outer_side k.side) missing.1 in
      record {
        there = origin_there ops all before earlier env is j.source.origin missing.0;
        placed = both.0;
        wide = both.1;
      }
    where
      go : (o : Option Side) → list_any (is_missing before.statements) (flat_map (λ j. origin_inputs j.source.origin) (k ∷ [])) ≡ false
          → IsBesidePlaced all earlier env (part_of j) (beside_one ops before (seen_of j) k o)
          × (length (beside_part all earlier env (part_of j) (beside_one ops before (seen_of j) k o)).cols ≡ length (columns_of_all (seen_of j ∷ (seen_of k ∷ []))))
      go None n = (joins_placed (k ∷ []) (seen_of j ∷ []) (part_of j) (first_wide j) n u joined.1.1.1, from_wide (k ∷ []) (seen_of j ∷ []) (part_of j) (first_wide j))
      go (Some side) n = (
        (
          origin_there ops all before earlier env is k.source.origin (none_left (is_missing before.statements) (origin_inputs k.source.origin) [] n).0,
          on_placed (seen_of j ∷ []) (seen_of k) (part_of j) (part_of k) (first_wide j) (part_wide k) k.on (neither (are_apart (sides_of (seen_of j ∷ []) (seen_of k), k.on)) false u).0
              (All-head (λ (j : raw_joined.Joined). HasSome j.on) k [] joined.1.1.1),
        ),
        length-range_with_len ((part_of j).count + (part_of k).count) (length (outer_call ops side (seen_of j) (seen_of k)).output)
            ∙ ap (λ l. length ((seen_of j).columns ++ l)) (sym (append-nil (seen_of k).columns)),
      )
  from_placed (j ∷ (k ∷ (l ∷ js))) m u joined =
      let missing = none_left (is_missing before.statements) (origin_inputs j.source.origin) (flat_map (λ j. origin_inputs j.source.origin) (k ∷ (l ∷ js))) m in
      record {
        there = origin_there ops all before earlier env is j.source.origin missing.0;
        placed = joins_placed (k ∷ (l ∷ js)) (seen_of j ∷ []) (part_of j) (first_wide j) missing.1 u joined.1.1.1;
        wide = from_wide (k ∷ (l ∷ js)) (seen_of j ∷ []) (part_of j) (first_wide j);
      }

  -- ---- commands

  command_placed : (c : raw_command.Command) → HasParts c → has_unknown_name before.statements c ≡ false → names_unknown (asked_by ops before c) ≡ false
      → IsCommandPlaced all earlier env (resolved ops before c)
  command_placed (raw.Extract cols stream call stored) parts m u = stored_below (length cols) (sight_of_columns cols) (columns_below cols) stored (keys_known (asked_by ops before (raw.Extract cols stream call stored)) u)
  command_placed (raw.Select s) parts m u =
      let asked = asked_by ops before (raw.Select s) in
      let v = view_of ops before s in
      let from = from_placed s.sources m (ons_known asked u) parts.1.0 in (
        from.there,
        from.placed,
        query_placed ops before s (beside_part all earlier env (source_part all earlier env (first_source ops s.sources)) (beside_of ops before s.sources)) from.wide
            (none_left are_unknown (refs_opt v.names s.group) (keys_opt v.result s.order) (keys_known asked u)).1,
      )
  command_placed (raw.Process source call cols) parts m u = source_there ops all before earlier env is source m
  command_placed (raw.Reduce source presort on call cols) parts m u =
      let names = sight_of (input_of_opt ops before source ∷ []) in
      let b = source_part all earlier env (source_of ops source) in
      let seen : IsSightBelow (length b.cols) names = one_below ops all before earlier env is (input_of_opt ops before source) b (source_wide ops all before earlier env is source) in
      let keys = neither (are_unknown (names, on)) (list_any are_unknown (keys_opt names presort)) (keys_known (asked_by ops before (raw.Reduce source presort on call cols)) u) in (
        source_there ops all before earlier env is source m,
        places_below (length b.cols) names seen on keys.0,
        keys_opt_below (length b.cols) names seen presort keys.1,
      )
  command_placed (raw.Combine left left_presort right right_presort on call cols) parts m u =
      let asked = asked_by ops before (raw.Combine left left_presort right right_presort on call cols) in
      let i = input_of ops before left in
      let j = input_of ops before right in
      let a = source_part all earlier env (resolved_origin ops left.origin) in
      let b = source_part all earlier env (resolved_origin ops right.origin) in
      let missing = none_left (is_missing before.statements) (origin_inputs left.origin) (origin_inputs right.origin) m in
      let keys = none_left are_unknown (keys_opt (sight_of (i ∷ [])) left_presort) (keys_opt (sight_of (j ∷ [])) right_presort) (keys_known asked u) in
      let ons = neither (are_apart (sides_of (i ∷ []) j, on)) false (ons_known asked u) in
      let first = origin_wide ops all before earlier env is left.origin in
      let second = origin_wide ops all before earlier env is right.origin in (
        origin_there ops all before earlier env is left.origin missing.0,
        origin_there ops all before earlier env is right.origin missing.1,
        on_placed (i ∷ []) j a b (sym (one_input i ∙ first)) (sym second) on ons.0 parts.1.1.0,
        keys_opt_below (length a.cols) (sight_of (i ∷ [])) (one_below ops all before earlier env is i a first) left_presort keys.0,
        keys_opt_below (length b.cols) (sight_of (j ∷ [])) (one_below ops all before earlier env is j b second) right_presort keys.1,
      )
  command_placed (raw.Output source stream outputter stored) parts m u =
      let names = sight_of_columns (heading_at before source) in (
        input_there ops all before earlier env is source (neither (is_missing before.statements source) false m).0,
        stored_below _ names (subst (λ (n : ℕ). IsSightBelow n names) (input_wide ops all before earlier env is source) (columns_below (heading_at before source))) stored
            (keys_known (asked_by ops before (raw.Output source stream outputter stored)) u),
      )

  pub before_next : (s : raw_statement.Statement) → IsRight s → IsBefore (after ops before s) (earlier ++ resolved_statement ops before s ∷ []) (env ++ bound all earlier env (resolved ops before s.command) ∷ [])
  before_next s right = record {
    right = All-push IsRight before.statements s is.right right;
    alike = alike_more ops before before.statements earlier s is.alike;
    wide = wide_more before.statements before.headings env s (heading_of ops before s.command) (bound all earlier env (resolved ops before s.command)) is.wide (command_wide ops all before earlier env is s.command);
  }

-- ---- the whole script

all_placed : (ops : Operators) (all : List ℕ) (rest : List raw_statement.Statement) (at : Place) (earlier : List Statement) (env : List Part) → IsBefore at.before earlier env
    → AreCauseless ops at rest → All IsRight rest → ArePlaced all earlier env (resolved_all ops at.before rest)
all_placed ops all [] at earlier env is c right = tt
all_placed ops all (s ∷ rest) at earlier env is c right =
    let here : IsRight s = All-head IsRight s rest right in (
      command_placed ops all at.before earlier env is s.command here.0 c.0.known c.0.columns,
      all_placed ops all rest (next ops at s) (earlier ++ resolved_statement ops at.before s ∷ []) (env ++ bound all earlier env (resolved ops at.before s.command) ∷ [])
          (before_next ops all at.before earlier env is s here) c.1 (All-tail IsRight s rest right),
    )

pub places : GivesPlaced
places ops script statements right h =
    let b = causeless ops script statements h in
    let named = resolved_all ops (start script.statements).before script.statements in
    subst IsPlaced (sym b.resolved)
    (all_placed ops (mentions [] named) script.statements (start script.statements) [] []
    (record { right = λ k d l. absurd (omega arith); alike = tt; wide = tt }) b.causeless right)
