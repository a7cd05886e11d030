-- What a command mentions, refers to and gives, source by source.
use Rattle.std.proofs.Common.{◌≡◌, ℕ, ◌+◌, Bool, true, false, cond, List, [], ◌∷◌, ◌++◌, map, flat_map, length, refl, sym, ap, ap₂, ◌∙◌, arith, append-nil, Option, Some, None, slice_get}
use Rattle.std.specs.Prelude.{option_map}
use Rattle.std.specs.List.{range_with_len}
use Rattle.std.specs.Option.{option_map_or}
use Rattle.std.proofs.lemmas.Grind.{flat_map-append}
use Rattle.std.proofs.lemmas.List.{length-map, length-append}
use Rattle.std.proofs.lemmas.List.FromFn.{length-range_with_len}
use Rattle.std.proofs.lemmas.Option.{slice_get-map}
use Rattle.col_sets.specs.declared.dir.Dir.{Dir}
use Rattle.scope_expr.specs.declared.expr.Expr.{Expr}
use Rattle.placed_trees.specs.declared.command.Command.{Command}
use Rattle.placed_trees.specs.declared.command.Command.TheVariants.{Extract, Select, Process, Reduce, Combine, Output}
use Rattle.placed_trees.specs.declared.query.Beside.{Beside}
use Rattle.placed_trees.specs.declared.query.Beside.TheVariants.{Inners, Outer}
use Rattle.placed_trees.specs.declared.query.Joined.{Joined}
use Rattle.placed_trees.specs.declared.query.Query.{Query}
use Rattle.placed_trees.specs.declared.source.Source.{Source}
use Rattle.placed_trees.specs.declared.source.Source.TheVariants.{FromResult, FromStream}
use Rattle.placed_trees.specs.declared.statement.Statement.{Statement}
use Rattle.placed_trees.specs.Inputs.{input_at}
use Rattle.script_meaning.specs.Part.{Part, number, filter_opt, unique_opt, first_opt, grouping_opt, query_part}
use Rattle.script_meaning.specs.Bound.{source_inputs, beside_inputs, inputs, one_or_none, is_shared, stands, found, placed, source_part, beside_part, bound}
use Rattle.source_laws.specs.Sources.{beside_sources, source_parts}
use Rattle.result_sharing.specs.Origins.{SourceOf, stream, result, source_of, beside_of, sources_of, mention_of, part_of}
use Rattle.result_sharing.specs.Steps.{width_at, width_in, result_refs, origin_refs}

-- ---- what sources stand for

source_stands : (all : List ℕ) (earlier : List Statement) (env : List Part) (s : Source) → part_of all env (source_of earlier s) ≡ source_part all earlier env s
source_stands all earlier env (FromResult i) = refl
source_stands all earlier env (FromStream d) = refl

joins_stand : (all : List ℕ) (earlier : List Statement) (env : List Part) (joins : List Joined)
    → map (part_of all env) (map (λ j. source_of earlier j.source) joins) ≡ map (λ j. source_part all earlier env j.source) joins
joins_stand all earlier env [] = refl
joins_stand all earlier env (j ∷ joins) = ap₂ (λ (p : Part) (ps : List Part). p ∷ ps) (source_stands all earlier env j.source) (joins_stand all earlier env joins)

beside_stands : (all : List ℕ) (earlier : List Statement) (env : List Part) (b : Beside) → map (part_of all env) (beside_of earlier b) ≡ beside_sources all earlier env b
beside_stands all earlier env (Inners joins) = joins_stand all earlier env joins
beside_stands all earlier env (Outer side call j) = ap (λ (p : Part). p ∷ []) (source_stands all earlier env j.source)

-- the sources of a command stand for the parts that its own is over
pub sources_stand : (all : List ℕ) (earlier : List Statement) (env : List Part) (c : Command) → map (part_of all env) (sources_of earlier c) ≡ source_parts all earlier env c
sources_stand all earlier env (Extract d) = refl
sources_stand all earlier env (Select q) = ap₂ (λ (p : Part) (ps : List Part). p ∷ ps) (source_stands all earlier env q.source) (beside_stands all earlier env q.beside)
sources_stand all earlier env (Process source call) = ap (λ (p : Part). p ∷ []) (source_stands all earlier env source)
sources_stand all earlier env (Reduce source on presort call) = ap (λ (p : Part). p ∷ []) (source_stands all earlier env source)
sources_stand all earlier env (Combine source before other after on call) =
    ap₂ (λ (p q : Part). p ∷ q ∷ []) (source_stands all earlier env source) (source_stands all earlier env other)
sources_stand all earlier env (Output w) = refl

-- ---- mentions

source_mentions : (earlier : List Statement) (s : Source) → mention_of (source_of earlier s) ≡ flat_map (λ i. one_or_none (input_at earlier i)) (source_inputs s)
source_mentions earlier (FromResult i) = sym (append-nil (one_or_none (input_at earlier i)))
source_mentions earlier (FromStream d) = refl

joins_mention : (earlier : List Statement) (joins : List Joined)
    → flat_map mention_of (map (λ j. source_of earlier j.source) joins) ≡ flat_map (λ i. one_or_none (input_at earlier i)) (flat_map (λ j. source_inputs j.source) joins)
joins_mention earlier [] = refl
joins_mention earlier (j ∷ joins) =
    ap₂ (λ (s t : List ℕ). s ++ t) (source_mentions earlier j.source) (joins_mention earlier joins)
    ∙ sym (flat_map-append (λ i. one_or_none (input_at earlier i)) (source_inputs j.source) (flat_map (λ j. source_inputs j.source) joins))

one_mentions : (earlier : List Statement) (s : Source) → flat_map mention_of (source_of earlier s ∷ []) ≡ flat_map (λ i. one_or_none (input_at earlier i)) (source_inputs s)
one_mentions earlier s = append-nil (mention_of (source_of earlier s)) ∙ source_mentions earlier s

beside_mentions : (earlier : List Statement) (b : Beside) → flat_map mention_of (beside_of earlier b) ≡ flat_map (λ i. one_or_none (input_at earlier i)) (beside_inputs b)
beside_mentions earlier (Inners joins) = joins_mention earlier joins
beside_mentions earlier (Outer side call j) = one_mentions earlier j.source

-- what a command mentions is what its sources are
pub sources_mention : (earlier : List Statement) (c : Command) → flat_map mention_of (sources_of earlier c) ≡ flat_map (λ i. one_or_none (input_at earlier i)) (inputs c)
sources_mention earlier (Extract d) = refl
sources_mention earlier (Select q) =
    ap₂ (λ (s t : List ℕ). s ++ t) (source_mentions earlier q.source) (beside_mentions earlier q.beside)
    ∙ sym (flat_map-append (λ i. one_or_none (input_at earlier i)) (source_inputs q.source) (beside_inputs q.beside))
sources_mention earlier (Process source call) = one_mentions earlier source
sources_mention earlier (Reduce source on presort call) = one_mentions earlier source
sources_mention earlier (Combine source before other after on call) =
    ap₂ (λ (s t : List ℕ). s ++ t) (source_mentions earlier source) (one_mentions earlier other)
    ∙ sym (flat_map-append (λ i. one_or_none (input_at earlier i)) (source_inputs source) (source_inputs other))
sources_mention earlier (Output w) = refl

-- ---- what is referred to

refs_found : (all : List ℕ) (env : List Part) (k : ℕ) → (found all k (slice_get env k)).refs ≡ result_refs all (map (λ (p : Part). p.refs) env) k
refs_found all env k =
    go (slice_get env k) ∙ ap (λ (o : Option (List ℕ)). option_map_or (λ inside. cond (is_shared all k) (k ∷ []) inside) o []) (sym (slice_get-map (λ (p : Part). p.refs) env k))
  where
    at : (s : Bool) (b : Part) → (stands s k b).refs ≡ cond s (k ∷ []) b.refs
    at true b = refl
    at false b = refl

    go : (o : Option Part) → (found all k o).refs ≡ option_map_or (λ inside. cond (is_shared all k) (k ∷ []) inside) (option_map (λ (p : Part). p.refs) o) []
    go None = refl
    go (Some b) = at (is_shared all k) b

refs_of_source : (all : List ℕ) (env : List Part) (s : SourceOf) → (part_of all env s).refs ≡ origin_refs all (map (λ (p : Part). p.refs) env) s
refs_of_source all env (stream d) = refl
refs_of_source all env (result None) = refl
refs_of_source all env (result (Some k)) = refs_found all env k

-- sources refer to what is known of earlier results
pub sources_refer : (all : List ℕ) (env : List Part) (sources : List SourceOf)
    → flat_map (λ (p : Part). p.refs) (map (part_of all env) sources) ≡ flat_map (origin_refs all (map (λ (p : Part). p.refs) env)) sources
sources_refer all env [] = refl
sources_refer all env (s ∷ sources) = ap₂ (λ (x y : List ℕ). x ++ y) (refs_of_source all env s) (sources_refer all env sources)

-- ---- widths

width_filter : (o : Option Expr) (a : Part) → length (filter_opt o a).cols ≡ length a.cols
width_filter None a = refl
width_filter (Some e) a = refl

width_unique : (b : Bool) (a : Part) → length (unique_opt b a).cols ≡ length a.cols
width_unique false a = refl
width_unique true a =
    length-append (map (number a 0) (range_with_len 0 (length a.cols))) []
    ∙ ap (λ n. n + 0) (length-map (range_with_len 0 (length a.cols)) (number a 0) ∙ length-range_with_len 0 (length a.cols)) ∙ plus_none (length a.cols)
  where
    plus_none : (n : ℕ) → n + 0 ≡ n
    plus_none n = omega arith

width_first : (o : Option ℕ) (order : List (ℕ × Dir)) (a : Part) → length (first_opt o order a).cols ≡ length a.cols
width_first None order a = refl
width_first (Some n) order a = refl

width_query : (q : Query) (a : Part) → length (query_part q a).cols ≡ length q.items
width_query q a =
    width_first q.top _ _ ∙ width_unique q.distinct _ ∙ width_filter q.having _
    ∙ length-range_with_len (grouping_opt q.group (filter_opt q.test a)).count (length q.items)

width_found : (all : List ℕ) (env : List Part) (k : ℕ) → length (found all k (slice_get env k)).cols ≡ width_at (map (λ (p : Part). length p.cols) env) (Some k)
width_found all env k = go (slice_get env k) ∙ ap (λ (o : Option ℕ). option_map_or (λ n. n) o 0) (sym (slice_get-map (λ (p : Part). length p.cols) env k))
  where
    at : (s : Bool) (b : Part) → length (stands s k b).cols ≡ length b.cols
    at true b = length-range_with_len 0 (length b.cols)
    at false b = refl

    go : (o : Option Part) → length (found all k o).cols ≡ option_map_or (λ n. n) (option_map (λ (p : Part). length p.cols) o) 0
    go None = refl
    go (Some b) = at (is_shared all k) b

width_placed : (all : List ℕ) (env : List Part) (i : Option ℕ) → length (placed all env i).cols ≡ width_at (map (λ (p : Part). length p.cols) env) i
width_placed all env None = refl
width_placed all env (Some k) = width_found all env k

-- how many columns a command gives, by those of earlier results
pub width_of_command : (all : List ℕ) (earlier : List Statement) (env : List Part) (c : Command)
    → length (bound all earlier env c).cols ≡ width_in earlier (map (λ (p : Part). length p.cols) env) c
width_of_command all earlier env (Extract d) = length-range_with_len 0 (length d.schema)
width_of_command all earlier env (Select q) = width_query q (beside_part all earlier env (source_part all earlier env q.source) q.beside)
width_of_command all earlier env (Process source call) = length-range_with_len (source_part all earlier env source).count (length call.output)
width_of_command all earlier env (Reduce source on presort call) = length-range_with_len (source_part all earlier env source).count (length call.output)
width_of_command all earlier env (Combine source before other after on call) =
    length-range_with_len ((source_part all earlier env source).count + (source_part all earlier env other).count) (length call.output)
width_of_command all earlier env (Output w) = width_placed all env (input_at earlier w.source)
