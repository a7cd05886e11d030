-- What is counted of a statement of a script without causes is how many columns its part numbers.
use Rattle.std.proofs.Common.{◌≡◌, ℕ, zero, suc, ◌+◌, ◌≤◌, Bool, true, false, cond, ◌||◌, not, List, [], ◌∷◌, ◌++◌, flat_map, length, append-nil, refl, sym, ap, ap₂, ◌∙◌, subst, arith, Option, Some, None, slice_get, ◌==◌, sum_by}
use Rattle.std.specs.Prelude.{is_some}
use Rattle.std.specs.Option.{option_map_or}
use Rattle.std.specs.List.{All}
use Rattle.std.proofs.lemmas.List.Elements.{All-nil, All-head, All-tail}
use Rattle.std.proofs.lemmas.List.FromFn.{length-range_with_len}
use Rattle.std.proofs.lemmas.List.Sums.{sum_by-cons}
use Rattle.col_sets.specs.declared.dir.Dir.{Dir}
use Rattle.col_sets.specs.Tests.{from_test}
use Rattle.scope_value.specs.declared.schema.Column.{Column}
use Rattle.script_trees.specs.declared.raw_agg.RawAgg.{RawAgg}
use Rattle.script_trees.specs.declared.command.Command as raw_command
use Rattle.script_trees.specs.declared.command.Command.TheVariants as raw
use Rattle.script_trees.specs.declared.script.Statement as raw_statement
use Rattle.script_trees.specs.declared.select.Joined as raw_joined
use Rattle.script_trees.specs.declared.select.Select.{Select}
use Rattle.script_trees.specs.declared.source.Source as raw_source
use Rattle.script_trees.specs.declared.source.Origin.{Origin}
use Rattle.script_trees.specs.declared.source.Origin.TheVariants.{Named, Stream}
use Rattle.scope_expr.specs.declared.expr.Expr.{Expr}
use Rattle.scope_expr.specs.declared.scope.Scope.{Scope}
use Rattle.scope_syntax.specs.Written.{IsRight}
use Rattle.user_ops.specs.Told.{Operators}
use Rattle.outer_joins.specs.declared.side.Side.{Side}
use Rattle.placed_trees.specs.declared.query.Grouping.{Grouping}
use Rattle.placed_trees.specs.declared.statement.Statement.{Statement}
use Rattle.placed_trees.specs.Inputs as there
use Rattle.names_in_sight.specs.declared.input.Input.{Input}
use Rattle.names_in_sight.specs.Inputs.{Before, input_at, heading_at, input_of, inputs_of, columns_of_all}
use Rattle.names_in_sight.specs.Sight.{named_by}
use Rattle.names_in_sight.specs.Views.{sides_of, pairs_of, outer_side, is_grouped, aggs_of, grouping_of, view_of}
use Rattle.name_resolution.specs.Queries.{resolved_origin, first_source, joins_from, beside_one, beside_of, query_of}
use Rattle.name_resolution.specs.Resolved.{source_of, resolved, resolved_statement}
use Rattle.binding_causes.specs.Limits.{result_count, origin_count, source_count, from_count, outer_count, count_of}
use Rattle.binding_causes.specs.Resolution.{Place, next, start}
use Rattle.script_meaning.specs.Meaning.{order_list}
use Rattle.script_meaning.specs.Part.{Part, joined_part, filter_opt, grouping_opt, project_part, unique_opt, first_opt, query_part}
use Rattle.script_meaning.specs.Bound.{mentions, is_shared, stands, found, placed, source_part, from_part, beside_part, bound, bound_from}
use Rattle.script_meaning.specs.Dag.{or_nothing, part_at}
use Rattle.script_meaning.specs.Laws.{FitsColumns}
use Rattle.resolution_laws.specs.Causeless.{resolved_all, AreCauseless}
use Rattle.resolution_laws.proofs.SightPlaces.{known}
use Rattle.resolution_laws.proofs.ViewPlaces.{length_exprs}
use Rattle.resolution_laws.proofs.Limits.{at_most}
use Rattle.resolution_laws.proofs.Mentions.{alike_input, mentions_same}
use Rattle.resolution_laws.proofs.Headings.{IsBefore, input_wide}
use Rattle.resolution_laws.proofs.Placed.{before_next}

-- ---- what was counted of the statements before

abbrev AreCounted : List ℕ → List Part → Type 0
AreCounted [] [] = Unit {0}
AreCounted [] (b ∷ env) = ⊥
AreCounted (n ∷ counts) [] = ⊥
AreCounted (n ∷ counts) (b ∷ env) = (n ≡ b.count) × AreCounted counts env

counted_more : (counts : List ℕ) (env : List Part) (n : ℕ) (b : Part) → AreCounted counts env → n ≡ b.count → AreCounted (counts ++ n ∷ []) (env ++ b ∷ [])
counted_more [] [] n b h e = (e, tt)
counted_more [] (a ∷ env) n b h e = absurd h
counted_more (m ∷ counts) [] n b h e = absurd h
counted_more (m ∷ counts) (a ∷ env) n b h e = (h.0, counted_more counts env n b h.1 e)

counted_at : (counts : List ℕ) (env : List Part) (k : ℕ) → AreCounted counts env → option_map_or (λ n. n) (slice_get counts k) 0 ≡ (part_at env k).count
counted_at [] [] k h = refl
counted_at [] (b ∷ env) k h = absurd h
counted_at (n ∷ counts) [] k h = absurd h
counted_at (n ∷ counts) (b ∷ env) zero h = h.0
counted_at (n ∷ counts) (b ∷ env) (suc k) h = counted_at counts env k h.1

-- ---- the clauses of a SELECT

filter_count : (o : Option Expr) (a : Part) → (filter_opt o a).count ≡ a.count
filter_count None a = refl
filter_count (Some e) a = refl

first_count : (o : Option ℕ) (order : List (ℕ × Dir)) (a : Part) → (first_opt o order a).count ≡ a.count
first_count None order a = refl
first_count (Some n) order a = refl

unique_count : (b : Bool) (a : Part) → (unique_opt b a).count ≡ a.count
unique_count false a = refl
unique_count true a = omega arith

length_aggs : (names : Scope) (aggs : List RawAgg) → length (aggs_of names aggs) ≡ length aggs
length_aggs names [] = refl
length_aggs names (g ∷ aggs) = ap suc (length_aggs names aggs)

-- a SELECT that isn't grouped has no aggregates
grouping_count : (names : Scope) (s : Select) (a : Part) → (grouping_opt (grouping_of names s) a).count ≡ a.count + length s.aggs
grouping_count names s a = go (is_grouped s) refl
  where
    none : (b : Bool) (n : ℕ) → (b || not (n == 0)) ≡ false → a.count ≡ a.count + n
    none true n h = absurd (cc)
    none false n h = let z : n ≡ 0 = from_test n 0 (known (n == 0) h) in omega (arith, z)

    go : (b : Bool) → is_grouped s ≡ b
        → (grouping_opt (cond {A = Option Grouping} b (Some (record { written = option_map_or (flat_map (named_by names)) s.group []; aggs = aggs_of names s.aggs })) None) a).count ≡ a.count + length s.aggs
    go true e = ap (λ n. a.count + n) (length_aggs names s.aggs)
    go false e = none (is_some s.group) (length s.aggs) e

query_count : (ops : Operators) (before : Before) (s : Select) (a : Part) → (query_part (query_of ops before s (view_of ops before s)) a).count ≡ a.count + length s.aggs + length (view_of ops before s).outputs
query_count ops before s a =
    let v = view_of ops before s in
    let q = query_of ops before s v in
    let f = filter_opt q.test a in
    let g = grouping_opt q.group f in
    let p = project_part q.items g in
    let h = filter_opt q.having p in
    let last = first_count q.top (order_list q.order) (unique_opt q.distinct h) ∙ unique_count q.distinct h ∙ filter_count q.having p in
    let items = length_exprs v.outputs in
    let groups = grouping_count v.names s f in
    let tests = filter_count q.test a in omega (arith, last, items, groups, tests)

-- ---- commands

module _ (ops : Operators) (all : List ℕ) (before : Before) (earlier : List Statement) (env : List Part) (is : IsBefore before earlier env) (counts : List ℕ) (counted : AreCounted counts env) where
  result_counted : (i : Option (List ℕ)) → result_count all before counts i ≡ (placed all env (there.input_at earlier i)).count
  result_counted i = go (input_at before.statements i) refl ∙ ap (λ o. (placed all env o).count) (alike_input before.statements earlier i is.alike)
    where
      one : (s : Bool) (k n : ℕ) (b : Part) → length (heading_at before i) ≡ length (stands s k b).cols → n ≡ b.count → cond {A = ℕ} s (length (heading_at before i)) n ≡ (stands s k b).count
      one true k n b w e = w ∙ length-range_with_len 0 (length b.cols)
      one false k n b w e = e

      none : (s : Bool) (n : ℕ) → length (heading_at before i) ≡ 0 → n ≡ 0 → cond {A = ℕ} s (length (heading_at before i)) n ≡ 0
      none true n w e = w
      none false n w e = e

      at : (k n : ℕ) (o : Option Part) → length (heading_at before i) ≡ length (found all k o).cols → n ≡ (or_nothing o).count
          → cond {A = ℕ} (is_shared all k) (length (heading_at before i)) n ≡ (found all k o).count
      at k n None w e = none (is_shared all k) n w e
      at k n (Some b) w e = one (is_shared all k) k n b w e

      go : (o : Option ℕ) → input_at before.statements i ≡ o
          → option_map_or (λ k. cond {A = ℕ} (is_shared all k) (length (heading_at before i)) (option_map_or (λ n. n) (slice_get counts k) 0)) o 0 ≡ (placed all env o).count
      go None e = refl
      go (Some k) e =
          at k (option_map_or (λ n. n) (slice_get counts k) 0) (slice_get env k)
          (input_wide ops all before earlier env is i ∙ ap (λ (o : Option ℕ). length (placed all env o).cols) (sym (alike_input before.statements earlier i is.alike) ∙ e))
          (counted_at counts env k counted)

  origin_counted : (o : Origin) → origin_count ops all before counts o ≡ (source_part all earlier env (resolved_origin ops o)).count
  origin_counted (Named n) = result_counted (Some n)
  origin_counted (Stream name call) = refl

  source_counted : (o : Option raw_source.Source) → source_count ops all before counts o ≡ (source_part all earlier env (source_of ops o)).count
  source_counted None = result_counted None
  source_counted (Some s) = origin_counted s.origin

  -- ---- FROM

  abbrev count_in : raw_joined.Joined → ℕ
  count_in j = origin_count ops all before counts j.source.origin

  abbrev part_of : raw_joined.Joined → Part
  part_of j = source_part all earlier env (resolved_origin ops j.source.origin)

  joins_counted : (done : List Input) (js : List raw_joined.Joined) (a : Part) → a.count + sum_by count_in js ≡ (from_part all earlier env a (joins_from ops before done js)).count
  joins_counted done [] a = omega arith
  joins_counted done (j ∷ js) a =
      let i = input_of ops before j.source in
      let b = part_of j in
      let more = joins_counted (done ++ i ∷ []) js (joined_part (pairs_of (sides_of done i) j.on) a b) in
      let first = sum_by-cons count_in j js in
      let here = origin_counted j.source.origin in omega (arith, more, first, here)

  from_counted : (js : List raw_joined.Joined)
      → from_count ops all before counts js + outer_count (inputs_of ops before js) js
      ≡ (beside_part all earlier env (source_part all earlier env (first_source ops js)) (beside_of ops before js)).count
  from_counted [] = let e = result_counted None in omega (arith, e)
  from_counted (j ∷ []) =
      let e = sum_by-cons count_in j [] in
      let here = origin_counted j.source.origin in omega (arith, e, here)
  from_counted (j ∷ (k ∷ [])) = go (outer_side k.side)
    where
      a : Input
      a = input_of ops before j.source

      b : Input
      b = input_of ops before k.source

      go : (o : Option Side) → sum_by count_in (j ∷ (k ∷ [])) + option_map_or (λ side. length (columns_of_all (a ∷ (b ∷ [])))) o 0 ≡ (beside_part all earlier env (part_of j) (beside_one ops before a k o)).count
      go None =
          let more = joins_counted (a ∷ []) (k ∷ []) (part_of j) in
          let e = sum_by-cons count_in j (k ∷ []) in
          let here = origin_counted j.source.origin in omega (arith, e, here, more)
      go (Some side) =
          let e = sum_by-cons count_in j (k ∷ []) in
          let f = sum_by-cons count_in k [] in
          let left = origin_counted j.source.origin in
          let right = origin_counted k.source.origin in
          let both : length (columns_of_all (a ∷ (b ∷ []))) ≡ length (a.columns ++ b.columns) = ap (λ (cs : List Column). length (a.columns ++ cs)) (append-nil b.columns) in
          omega (arith, e, f, left, right, both)
  from_counted (j ∷ (k ∷ (l ∷ js))) =
      let more = joins_counted (input_of ops before j.source ∷ []) (k ∷ (l ∷ js)) (part_of j) in
      let e = sum_by-cons count_in j (k ∷ (l ∷ js)) in
      let here = origin_counted j.source.origin in omega (arith, e, here, more)

  pub command_counted : (c : raw_command.Command) → count_of ops all before counts c ≡ (bound all earlier env (resolved ops before c)).count
  command_counted (raw.Extract cols stream call stored) = refl
  command_counted (raw.Select s) =
      let a = beside_part all earlier env (source_part all earlier env (first_source ops s.sources)) (beside_of ops before s.sources) in
      let from = from_counted s.sources in
      let rest = query_count ops before s a in omega (arith, from, rest)
  command_counted (raw.Process source call cols) = ap (λ n. n + length cols) (source_counted source)
  command_counted (raw.Reduce source presort on call cols) = ap (λ n. n + length cols) (source_counted source)
  command_counted (raw.Combine left left_presort right right_presort on call cols) = ap₂ (λ m n. m + n + length cols) (origin_counted left.origin) (origin_counted right.origin)
  command_counted (raw.Output source stream outputter stored) = result_counted source

-- ---- the whole script

abbrev AreFew : List Part → Type 0
AreFew [] = Unit {0}
AreFew (b ∷ env) = (b.count ≤ 128) × AreFew env

few_more : (env : List Part) (b : Part) → AreFew env → b.count ≤ 128 → AreFew (env ++ b ∷ [])
few_more [] b h l = (l, tt)
few_more (a ∷ env) b h l = (h.0, few_more env b h.1 l)

few_at : (env : List Part) → AreFew env → (k : ℕ) → (part_at env k).count ≤ 128
few_at [] h k = omega arith
few_at (b ∷ env) h zero = h.0
few_at (b ∷ env) h (suc k) = few_at env h.1 k

all_few : (ops : Operators) (rest : List raw_statement.Statement) (at : Place) (earlier : List Statement) (env : List Part) → IsBefore at.before earlier env → AreCounted at.counts env
    → AreCauseless ops at rest → All IsRight rest → AreFew env → AreFew (bound_from at.all earlier env (resolved_all ops at.before rest))
all_few ops [] at earlier env is counted c right few = few
all_few ops (s ∷ rest) at earlier env is counted c right few =
    let b = bound at.all earlier env (resolved ops at.before s.command) in
    let same = command_counted ops at.all at.before earlier env is at.counts counted s.command in
    let most = at_most 128 (count_of ops at.all at.before at.counts s.command) c.0.few_columns in
    all_few ops rest (next ops at s) (earlier ++ resolved_statement ops at.before s ∷ []) (env ++ b ∷ [])
    (before_next ops at.all at.before earlier env is s (All-head IsRight s rest right)) (counted_more at.counts env _ b counted same) c.1 (All-tail IsRight s rest right)
    (few_more env b few (omega (arith, same, most)))

pub fits : (ops : Operators) (script : List raw_statement.Statement) → AreCauseless ops (start script) script → All IsRight script → FitsColumns (resolved_all ops (start script).before script)
fits ops script c right =
    let named = resolved_all ops (start script).before script in
    let few = all_few ops script (start script) [] [] (record { right = All-nil IsRight; alike = tt; wide = tt }) tt c right tt in
    few_at (bound_from (mentions [] named) [] [] named) (subst (λ (all : List ℕ). AreFew (bound_from all [] [] named)) (mentions_same ops (start script).before script) few)
