-- The outer joins of a script without causes are called with the numbers of the columns of both sides.
use Rattle.std.proofs.Common.{◌≡◌, ℕ, zero, suc, ◌+◌, ◌<◌, ◌≤◌, ◌^◌, Bool, true, false, List, [], ◌∷◌, ◌++◌, length, append-nil, refl, sym, ap, ◌∙◌, subst, arith, Option, Some, None, slice_get}
use Rattle.std.specs.Option.{option_map_or}
use Rattle.std.specs.List.{All}
use Rattle.std.proofs.lemmas.List.{length-append}
use Rattle.std.proofs.lemmas.List.Elements.{All-nil, All-head, All-tail}
use Rattle.std.proofs.lemmas.List.FromFn.{length-range_with_len}
use Rattle.col_sets.specs.declared.dir.Dir.{Dir}
use Rattle.scope_value.specs.declared.schema.Column.{Column}
use Rattle.script_trees.specs.declared.command.Command as raw_command
use Rattle.script_trees.specs.declared.command.Command.TheVariants as raw
use Rattle.script_trees.specs.declared.script.Statement as raw_statement
use Rattle.script_trees.specs.declared.select.Joined as raw_joined
use Rattle.scope_expr.specs.declared.expr.Expr.{Expr}
use Rattle.scope_syntax.specs.Written.{IsRight}
use Rattle.user_ops.specs.Told.{Operators}
use Rattle.outer_joins.specs.declared.side.Side.{Side}
use Rattle.logical_trees.specs.Rows.{Bag}
use Rattle.placed_trees.specs.declared.command.Command.{Command}
use Rattle.placed_trees.specs.declared.command.Command.TheVariants.{Extract, Select, Process, Reduce, Combine, Output}
use Rattle.placed_trees.specs.declared.query.Query.{Query}
use Rattle.placed_trees.specs.declared.source.Source.{Source}
use Rattle.placed_trees.specs.declared.source.Source.TheVariants.{FromResult, FromStream}
use Rattle.placed_trees.specs.declared.source.Stream.{Stream}
use Rattle.placed_trees.specs.declared.statement.Statement.{Statement}
use Rattle.placed_trees.specs.Inputs.{input_at}
use Rattle.names_in_sight.specs.declared.input.Input.{Input}
use Rattle.names_in_sight.specs.Operators.{op_of, outer_name}
use Rattle.names_in_sight.specs.Inputs.{Before, input_of, inputs_of, columns_of_all}
use Rattle.names_in_sight.specs.Views.{outer_side}
use Rattle.name_resolution.specs.Queries.{resolved_origin, first_source, outer_call, beside_one, beside_of}
use Rattle.name_resolution.specs.Resolved.{resolved, resolved_statement}
use Rattle.binding_causes.specs.Operators.{side_of, is_combiner_missing, has_unknown_operator}
use Rattle.binding_causes.specs.Limits.{from_count, outer_count, count_of}
use Rattle.binding_causes.specs.Resolution.{Place, next, start}
use Rattle.script_meaning.specs.Meaning.{Table, where_opt, item_rows, group_opt, distinct_opt, order_list, top_opt, result_at, source_rows, query_rows, result}
use Rattle.script_meaning.specs.Part.{Part}
use Rattle.script_meaning.specs.Bound.{placed, source_part, bound}
use Rattle.script_meaning.specs.Dag.{part_at}
use Rattle.script_meaning.specs.Laws.{stream_rows, table_at, IsOuterCall, IsBesideTold, IsCommandTold, AreOuterTold, AreTold, AreToldCalls}
use Rattle.resolution_laws.specs.Causeless.{resolved_all, AreCauseless}
use Rattle.resolution_laws.specs.Laws.{GivesCauseless}
use Rattle.resolution_laws.proofs.SightPlaces.{neither}
use Rattle.resolution_laws.proofs.ViewPlaces.{query_wide}
use Rattle.resolution_laws.proofs.Limits.{at_most}
use Rattle.resolution_laws.proofs.Headings.{IsBefore, found_wide, origin_wide}
use Rattle.resolution_laws.proofs.Placed.{before_next}
use Rattle.binding_laws.specs.There.{TellsOuterJoins}
use Rattle.binding_laws.specs.Laws.{GivesTold}
use Rattle.binding_laws.proofs.NamedThere.{is_at}

-- ---- results as wide as the parts of their statements

abbrev AreAsWide : List Part → List Table → Type 0
AreAsWide [] [] = Unit {0}
AreAsWide [] (A ∷ done) = ⊥
AreAsWide (b ∷ env) [] = ⊥
AreAsWide (b ∷ env) (A ∷ done) = (length b.cols ≡ A.width) × AreAsWide env done

as_wide_more : (env : List Part) (done : List Table) (b : Part) (A : Table) → AreAsWide env done → length b.cols ≡ A.width → AreAsWide (env ++ b ∷ []) (done ++ A ∷ [])
as_wide_more [] [] b A w e = (e, tt)
as_wide_more [] (C ∷ done) b A w e = absurd w
as_wide_more (a ∷ env) [] b A w e = absurd w
as_wide_more (a ∷ env) (C ∷ done) b A w e = (w.0, as_wide_more env done b A w.1 e)

as_wide_at : (env : List Part) (done : List Table) (k : ℕ) → AreAsWide env done → length (part_at env k).cols ≡ (table_at done k).width
as_wide_at [] [] k w = refl
as_wide_at [] (A ∷ done) k w = absurd w
as_wide_at (b ∷ env) [] k w = absurd w
as_wide_at (b ∷ env) (A ∷ done) zero w = w.0
as_wide_at (b ∷ env) (A ∷ done) (suc k) w = as_wide_at env done k w.1

where_width : (o : Option Expr) (A : Table) → (where_opt o A).width ≡ A.width
where_width None A = refl
where_width (Some e) A = refl

distinct_width : (b : Bool) (A : Table) → (distinct_opt b A).width ≡ A.width
distinct_width false A = refl
distinct_width true A = let e = length-range_with_len 0 A.width in omega (arith, e)

top_width : (o : Option ℕ) (order : List (ℕ × Dir)) (A : Table) → (top_opt o order A).width ≡ A.width
top_width None order A = refl
top_width (Some n) order A = refl

query_width : (q : Query) (A : Table) → (query_rows q A).width ≡ length q.items
query_width q A =
    let items = item_rows q.items (group_opt q.group (where_opt q.test A)) in
    let had = where_opt q.having items in
    top_width q.top (order_list q.order) (distinct_opt q.distinct had) ∙ distinct_width q.distinct had ∙ where_width q.having items

module _ (ops : Operators) (input : Stream → Bag) (all : List ℕ) (earlier : List Statement) (env : List Part) (done : List Table) (w : AreAsWide env done) where
  placed_as_wide : (i : Option ℕ) → length (placed all env i).cols ≡ (result_at done i).width
  placed_as_wide None = refl
  placed_as_wide (Some k) = found_wide all k (slice_get env k) ∙ as_wide_at env done k w

  source_as_wide : (s : Source) → length (source_part all earlier env s).cols ≡ (source_rows input earlier done s).width
  source_as_wide (FromResult i) = placed_as_wide (input_at earlier i)
  source_as_wide (FromStream d) = length-range_with_len 0 (length d.schema)

  command_as_wide : (c : Command) → length (bound all earlier env c).cols ≡ (result ops input earlier done c).width
  command_as_wide (Extract d) = length-range_with_len 0 (length d.schema)
  command_as_wide (Select q) = query_wide q _ ∙ sym (query_width q _)
  command_as_wide (Process source call) = length-range_with_len (source_part all earlier env source).count (length call.output)
  command_as_wide (Reduce source on presort call) = length-range_with_len (source_part all earlier env source).count (length call.output)
  command_as_wide (Combine source before other after on call) =
      length-range_with_len ((source_part all earlier env source).count + (source_part all earlier env other).count) (length call.output)
  command_as_wide (Output o) = placed_as_wide (input_at earlier o.source)

-- ---- the call of an outer join

small : (m n w : ℕ) → m + n ≤ w → w ≤ 128 → (m < 2 ^ 64) × (n < 2 ^ 64)
small m n w l k = (omega arith, omega arith)

module _ (ops : Operators) (input : Stream → Bag) (calls : AreToldCalls) (outers : TellsOuterJoins ops) (all : List ℕ) (before : Before) (earlier : List Statement) (env : List Part) (is : IsBefore before earlier env) (done : List Table) (w : AreAsWide env done) where
  beside_told : (js : List raw_joined.Joined) → is_combiner_missing ops (side_of js) ≡ false → outer_count (inputs_of ops before js) js ≤ 128
      → IsBesideTold ops input earlier done (source_rows input earlier done (first_source ops js)) (beside_of ops before js)
  beside_told [] h l = tt
  beside_told (j ∷ []) h l = tt
  beside_told (j ∷ (k ∷ [])) h l = go (outer_side k.side) h l
    where
      a : Input
      a = input_of ops before j.source

      b : Input
      b = input_of ops before k.source

      A : Table
      A = source_rows input earlier done (resolved_origin ops j.source.origin)

      B : Table
      B = source_rows input earlier done (resolved_origin ops k.source.origin)

      left : length a.columns ≡ A.width
      left = origin_wide ops all before earlier env is j.source.origin ∙ source_as_wide ops input all earlier env done w (resolved_origin ops j.source.origin)

      right : length b.columns ≡ B.width
      right = origin_wide ops all before earlier env is k.source.origin ∙ source_as_wide ops input all earlier env done w (resolved_origin ops k.source.origin)

      both : length (columns_of_all (a ∷ (b ∷ []))) ≡ length a.columns + length b.columns
      both = ap (λ (cs : List Column). length (a.columns ++ cs)) (append-nil b.columns) ∙ length-append a.columns b.columns

      go : (o : Option Side) → is_combiner_missing ops o ≡ false → option_map_or (λ (side : Side). length (columns_of_all (a ∷ (b ∷ [])))) o 0 ≤ 128
          → IsBesideTold ops input earlier done A (beside_one ops before a k o)
      go None n m = tt
      go (Some side) n m =
          let few = small (length a.columns) (length b.columns) (length (columns_of_all (a ∷ (b ∷ [])))) (omega (arith, both)) m in
          let told : IsOuterCall ops side (outer_call ops side a b) (length a.columns) (length b.columns) =
          calls ops side (outer_call ops side a b) (length a.columns) (length b.columns)
          (outers side (op_of ops.combiner_names (outer_name side)) (is_at ops.combiner_names (outer_name side) n).place) refl (length-append a.columns b.columns) few.0 few.1 in
          subst (λ (i : ℕ). IsOuterCall ops side (outer_call ops side a b) i B.width) left
          (subst (λ (i : ℕ). IsOuterCall ops side (outer_call ops side a b) (length a.columns) i) right told)
  beside_told (j ∷ (k ∷ (l ∷ js))) h m = tt

  command_told : (counts : List ℕ) (c : raw_command.Command) → has_unknown_operator ops c ≡ false → count_of ops all before counts c ≤ 128 → IsCommandTold ops input earlier done (resolved ops before c)
  command_told counts (raw.Extract cols stream call stored) h l = tt
  command_told counts (raw.Select s) h l = beside_told s.sources (neither _ (is_combiner_missing ops (side_of s.sources)) h).1 (part (from_count ops all before counts s.sources) _ (length s.aggs) _ l)
    where
      part : (m n i j : ℕ) → m + n + i + j ≤ 128 → n ≤ 128
      part m n i j q = omega arith
  command_told counts (raw.Process source call cols) h l = tt
  command_told counts (raw.Reduce source presort on call cols) h l = tt
  command_told counts (raw.Combine left left_presort right right_presort on call cols) h l = tt
  command_told counts (raw.Output source stream outputter stored) h l = tt

-- ---- the whole script

all_told : (ops : Operators) (input : Stream → Bag) → AreToldCalls → TellsOuterJoins ops → (rest : List raw_statement.Statement) (at : Place) (earlier : List Statement) (env : List Part)
    → IsBefore at.before earlier env → (done : List Table) → AreAsWide env done → AreCauseless ops at rest → All IsRight rest
    → AreOuterTold ops input earlier done (resolved_all ops at.before rest)
all_told ops input calls outers [] at earlier env is done w c right = tt
all_told ops input calls outers (s ∷ rest) at earlier env is done w c right =
    let command = resolved ops at.before s.command in (
      command_told ops input calls outers at.all at.before earlier env is done w at.counts s.command c.0.there (at_most 128 (count_of ops at.all at.before at.counts s.command) c.0.few_columns),
      all_told ops input calls outers rest (next ops at s) (earlier ++ resolved_statement ops at.before s ∷ []) (env ++ bound at.all earlier env command ∷ [])
          (before_next ops at.all at.before earlier env is s (All-head IsRight s rest right)) (done ++ result ops input earlier done command ∷ [])
          (as_wide_more env done (bound at.all earlier env command) (result ops input earlier done command) w (command_as_wide ops input at.all earlier env done w command))
          c.1 (All-tail IsRight s rest right),
    )

pub gives_told : GivesCauseless → AreToldCalls → GivesTold
gives_told causeless calls ops script statements input lawful outers right h =
    let b = causeless ops script statements h in
    subst (AreTold ops input) (sym b.resolved)
    (all_told ops (stream_rows input) calls outers script.statements (start script.statements) [] []
    (record { right = All-nil IsRight; alike = tt; wide = tt }) [] tt b.causeless right)
