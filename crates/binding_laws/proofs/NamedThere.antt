-- The operators that the statements of a script without causes call are there.
use Rattle.std.proofs.Common.{◌≡◌, ℕ, ◌<◌, Bool, true, false, not, List, [], ◌∷◌, ◌++◌, length, map, flat_map, refl, sym, ap, ◌∙◌, arith, Option, Some, None}
use Rattle.std.specs.Prelude.{is_some}
use Rattle.std.specs.Option.{option_map_or}
use Rattle.std.specs.List.{All, list_any}
use Rattle.std.specs.Str.{bytes_eq}
use Rattle.std.proofs.lemmas.List.Elements.{All-nil, All-cons}
use Rattle.std.proofs.lemmas.List.Quantifiers.{position-Some}
use Rattle.script_trees.specs.declared.call.Call.{Call}
use Rattle.script_trees.specs.declared.command.Command as raw_command
use Rattle.script_trees.specs.declared.command.Command.TheVariants as raw
use Rattle.script_trees.specs.declared.script.Statement as raw_statement
use Rattle.script_trees.specs.declared.select.Joined as raw_joined
use Rattle.script_trees.specs.declared.source.Source as raw_source
use Rattle.script_trees.specs.declared.source.Origin.{Origin}
use Rattle.script_trees.specs.declared.source.Origin.TheVariants.{Named, Stream}
use Rattle.user_ops.specs.Told.{Operators}
use Rattle.user_ops.specs.Lawful.{AreNamed}
use Rattle.outer_joins.specs.declared.side.Side.{Side}
use Rattle.placed_trees.specs.declared.query.Joined.{Joined}
use Rattle.placed_trees.specs.declared.statement.Statement.{Statement}
use Rattle.names_in_sight.specs.declared.input.Input.{Input}
use Rattle.names_in_sight.specs.Operators.{place_in, op_of, outer_name}
use Rattle.names_in_sight.specs.Inputs.{Before, input_of}
use Rattle.names_in_sight.specs.Views.{outer_side}
use Rattle.name_resolution.specs.Queries.{resolved_origin, first_source, joined_of, joins_from, beside_one, beside_of}
use Rattle.name_resolution.specs.Resolved.{source_of, resolved, resolved_statement, after}
use Rattle.binding_causes.specs.Names.{source_opt}
use Rattle.binding_causes.specs.Operators.{is_in, side_of, origin_calls, inline_calls, is_combiner_missing, has_unknown_operator}
use Rattle.binding_causes.specs.Resolution.{Place, next}
use Rattle.resolution_laws.specs.Causeless.{resolved_all, AreCauseless}
use Rattle.resolution_laws.proofs.SightPlaces.{neither, none_left, known}
use Rattle.binding_laws.specs.There.{IsSourceThere, IsBesideThere, IsCommandThere}

-- ---- names that are there

-- the name is there, at a place
pub record IsAt (names : List (List ℕ)) (name : List ℕ) : Type 0 where
  pub place : place_in names name ≡ Some (op_of names name)
  pub within : op_of names name < length names

pub is_at : (names : List (List ℕ)) (name : List ℕ) → not (is_in names name) ≡ false → IsAt names name
is_at names name h = go (place_in names name) refl (known (is_in names name) h)
  where
    go : (o : Option ℕ) → place_in names name ≡ o → is_some o ≡ true → IsAt names name
    go None e q = absurd (cc)
    go (Some k) e q =
        let same : op_of names name ≡ k = ap (λ (p : Option ℕ). option_map_or (λ i. i) p 0) e in
        let first = position-Some (λ n. bytes_eq n name) names k [] e in
        record { place = e ∙ ap Some (sym same); within = let w : k < length names = first.0 in omega (arith, same, w) }

-- so is the object of that name
called : {T : Type 0} (names : List (List ℕ)) (told : List T) (name : List ℕ) → length names ≡ length told → not (is_in names name) ≡ false → op_of names name < length told
called names told name e h = let w = (is_at names name h).within in omega (arith, e, w)

-- ---- sources

module _ (ops : Operators) (named : AreNamed ops) where
  -- the set has no extractor of that name
  abbrev is_missing : Call → Bool
  is_missing call = not (is_in ops.extractor_names call.op)

  origin_there : (o : Origin) → list_any is_missing (origin_calls o) ≡ false → IsSourceThere ops (resolved_origin ops o)
  origin_there (Named n) h = tt
  origin_there (Stream name call) h = called ops.extractor_names ops.extractors call.op named.extractors (neither (is_missing call) false h).0

  source_there : (o : Option raw_source.Source) → list_any is_missing (flat_map (λ s. origin_calls s.origin) (source_opt o)) ≡ false → IsSourceThere ops (source_of ops o)
  source_there None h = tt
  source_there (Some s) h = origin_there s.origin (none_left is_missing (origin_calls s.origin) [] h).0

  abbrev calls_in : List raw_joined.Joined → List Call
  calls_in js = flat_map (λ s. origin_calls s.origin) (map (λ j. j.source) js)

  abbrev IsJoinThere : Joined → Type 0
  IsJoinThere j = IsSourceThere ops j.source

  joins_there : (before : Before) (done : List Input) (js : List raw_joined.Joined) → list_any is_missing (calls_in js) ≡ false → All IsJoinThere (joins_from ops before done js)
  joins_there before done [] h = All-nil IsJoinThere
  joins_there before done (j ∷ js) h =
      let k = none_left is_missing (origin_calls j.source.origin) (calls_in js) h in
      All-cons IsJoinThere (joined_of ops before done j) (joins_from ops before (done ++ input_of ops before j.source ∷ []) js) (origin_there j.source.origin k.0)
      (joins_there before (done ++ input_of ops before j.source ∷ []) js k.1)

  first_there : (js : List raw_joined.Joined) → list_any is_missing (calls_in js) ≡ false → IsSourceThere ops (first_source ops js)
  first_there [] h = tt
  first_there (j ∷ js) h = origin_there j.source.origin (none_left is_missing (origin_calls j.source.origin) (calls_in js) h).0

  beside_there : (before : Before) (js : List raw_joined.Joined) → list_any is_missing (calls_in js) ≡ false → is_combiner_missing ops (side_of js) ≡ false → IsBesideThere ops (beside_of ops before js)
  beside_there before [] h m = All-nil IsJoinThere
  beside_there before (j ∷ []) h m = All-nil IsJoinThere
  beside_there before (j ∷ (k ∷ [])) h m = go (outer_side k.side) m (none_left is_missing (origin_calls j.source.origin) (calls_in (k ∷ [])) h).1
    where
      go : (o : Option Side) → is_combiner_missing ops o ≡ false → list_any is_missing (calls_in (k ∷ [])) ≡ false → IsBesideThere ops (beside_one ops before (input_of ops before j.source) k o)
      go None n q = joins_there before (input_of ops before j.source ∷ []) (k ∷ []) q
      go (Some side) n q = (
        called ops.combiner_names ops.combiners (outer_name side) named.combiners n,
        origin_there k.source.origin (none_left is_missing (origin_calls k.source.origin) [] q).0,
      )
  beside_there before (j ∷ (k ∷ (l ∷ js))) h m =
      joins_there before (input_of ops before j.source ∷ []) (k ∷ (l ∷ js)) (none_left is_missing (origin_calls j.source.origin) (calls_in (k ∷ (l ∷ js))) h).1

  -- ---- commands

  command_there : (before : Before) (c : raw_command.Command) → has_unknown_operator ops c ≡ false → IsCommandThere ops (resolved ops before c)
  command_there before (raw.Extract cols stream call stored) h = called ops.extractor_names ops.extractors call.op named.extractors h
  command_there before (raw.Select s) h =
      let k = neither (list_any is_missing (calls_in s.sources)) (is_combiner_missing ops (side_of s.sources)) h in
      (first_there s.sources k.0, beside_there before s.sources k.0 k.1)
  command_there before (raw.Process source call cols) h =
      let k = neither (list_any is_missing (inline_calls (raw.Process source call cols))) _ h in
      (called ops.processor_names ops.processors call.op named.processors k.1, source_there source k.0)
  command_there before (raw.Reduce source presort on call cols) h =
      let k = neither (list_any is_missing (inline_calls (raw.Reduce source presort on call cols))) _ h in
      (called ops.reducer_names ops.reducers call.op named.reducers k.1, source_there source k.0)
  command_there before (raw.Combine left left_presort right right_presort on call cols) h =
      let k = neither (list_any is_missing (inline_calls (raw.Combine left left_presort right right_presort on call cols))) _ h in
      let both = none_left is_missing (origin_calls left.origin) (origin_calls right.origin ++ []) k.0 in (
        called ops.combiner_names ops.combiners call.op named.combiners k.1,
        origin_there left.origin both.0,
        origin_there right.origin (none_left is_missing (origin_calls right.origin) [] both.1).0,
      )
  command_there before (raw.Output source stream outputter stored) h = tt

  -- ---- the whole script

  abbrev IsStatementThere : Statement → Type 0
  IsStatementThere s = IsCommandThere ops s.command

  pub all_named : (at : Place) (rest : List raw_statement.Statement) → AreCauseless ops at rest → All IsStatementThere (resolved_all ops at.before rest)
  all_named at [] c = All-nil IsStatementThere
  all_named at (s ∷ rest) c =
      All-cons IsStatementThere (resolved_statement ops at.before s) (resolved_all ops (after ops at.before s) rest) (command_there at.before s.command c.0.there)
      (all_named (next ops at s) rest c.1)
