-- What a command names is there, over the columns of its sources.
use Rattle.std.proofs.Common.{◌≡◌, ℕ, ◌+◌, Bool, true, false, List, [], ◌∷◌, map, length, refl, sym, ap, ap₂, ◌∙◌, subst, arith, Option, Some, None}
use Rattle.std.specs.Prelude.{sum_by}
use Rattle.std.specs.List.{range_with_len}
use Rattle.std.proofs.Math.Nat.{add_assoc}
use Rattle.std.proofs.lemmas.List.{length-map, length-append}
use Rattle.std.proofs.lemmas.List.Sums.{sum_by-cons}
use Rattle.std.proofs.lemmas.List.FromFn.{length-range_with_len}
use Rattle.scope_expr.specs.declared.expr.Expr.{Expr}
use Rattle.placed_trees.specs.declared.command.Command.TheVariants.{Extract, Select, Process, Reduce, Combine, Output}
use Rattle.placed_trees.specs.declared.query.Beside.{Beside}
use Rattle.placed_trees.specs.declared.query.Beside.TheVariants.{Inners, Outer}
use Rattle.placed_trees.specs.declared.query.Grouping.{Grouping}
use Rattle.placed_trees.specs.declared.query.Joined.{Joined}
use Rattle.placed_trees.specs.declared.query.Query.{Query}
use Rattle.placed_trees.specs.declared.statement.Statement.{Statement}
use Rattle.script_meaning.specs.Bound.{source_part, from_part, beside_part}
use Rattle.script_meaning.specs.Meaning.{key_places, order_list}
use Rattle.script_meaning.specs.Part.{Part, number, joined_part, filter_opt, grouping_opt, project_part, unique_opt}
use Rattle.script_meaning.specs.Placed.{IsBelowOpt, AreBelow, IsGroupingBelow, IsOrderBelow, IsQueryPlaced, AreJoinsPlaced, IsBesidePlaced}
use Rattle.script_meaning.specs.Within.{AreJoinsFew, IsBesideFew, IsGroupingFew, IsOrderFew, IsTopOrdered}
use Rattle.script_nodes.specs.Over.{AreJoinsOver, IsBesideOver, beside_width, grouped_width, IsQueryOver}
use Rattle.source_laws.specs.Sources.{beside_sources, widths_at}
use Rattle.source_laws.specs.Laws.{NamesSources}

-- ---- the numbers of columns

joined_width : (a b : Part) → length (joined_part [] a b).cols ≡ length a.cols + length b.cols
joined_width a b = length-append a.cols (map (λ p. a.count + p) b.cols) ∙ ap (λ n. length a.cols + n) (length-map b.cols (λ p. a.count + p))

filter_width : (o : Option Expr) (a : Part) → length (filter_opt o a).cols ≡ length a.cols
filter_width None a = refl
filter_width (Some e) a = refl

grouping_width : (o : Option Grouping) (a : Part) → length (grouping_opt o a).cols ≡ grouped_width (length a.cols) o
grouping_width None a = refl
grouping_width (Some g) a =
    length-append (map (number a 0) (key_places (length a.cols) g.written)) (range_with_len a.count (length g.aggs))
    ∙ ap₂ (λ m n. m + n) (length-map (key_places (length a.cols) g.written) (number a 0)) (length-range_with_len a.count (length g.aggs))

unique_width : (b : Bool) (a : Part) → length (unique_opt b a).cols ≡ length a.cols
unique_width false a = refl
unique_width true a =
    length-append (map (number a 0) (range_with_len 0 (length a.cols))) []
    ∙ ap (λ n. n + 0) (length-map (range_with_len 0 (length a.cols)) (number a 0) ∙ length-range_with_len 0 (length a.cols))
    ∙ zeroed (length a.cols)
  where
    zeroed : (n : ℕ) → n + 0 ≡ n
    zeroed n = omega arith

-- ---- a SELECT

query_over : (q : Query) (a : Part) → IsQueryPlaced q a → IsGroupingFew q.group → IsOrderFew q.order → IsTopOrdered q.top q.order → IsQueryOver (length a.cols) q
query_over q a h keys orders top = record {
  tests = h.tests;
  groups = subst (λ (n : ℕ). IsGroupingBelow n q.group) (filter_width q.test a) h.groups;
  gives = subst (λ (n : ℕ). AreBelow n q.items) (grouping_width q.group (filter_opt q.test a) ∙ ap (λ n. grouped_width n q.group) (filter_width q.test a)) h.gives;
  has = subst (λ (n : ℕ). IsBelowOpt n q.having) given h.has;
  orders = subst (λ (n : ℕ). IsOrderBelow n (order_list q.order)) (unique_width q.distinct (filter_opt q.having projected) ∙ filter_width q.having projected ∙ given) h.orders;
  few_keys = keys;
  few_orders = orders;
  top = top;
}
  where
    projected : Part
    projected = project_part q.items (grouping_opt q.group (filter_opt q.test a))

    given : length (project_part q.items (grouping_opt q.group (filter_opt q.test a))).cols ≡ length q.items
    given = length-range_with_len (grouping_opt q.group (filter_opt q.test a)).count (length q.items)

module _ (all : List ℕ) (earlier : List Statement) (env : List Part) where
  joins_over : (joins : List Joined) (a : Part) → AreJoinsPlaced all earlier env a joins → AreJoinsFew joins
      → AreJoinsOver (length a.cols) joins (widths_at (map (λ j. source_part all earlier env j.source) joins))
  joins_over [] a p f = tt
  joins_over (j ∷ joins) a p f =
      let b = source_part all earlier env j.source in (
        (f.0.1, p.1.1),
        subst (λ (n : ℕ). AreJoinsOver n joins (widths_at (map (λ j. source_part all earlier env j.source) joins))) (joined_width a b) (joins_over joins (joined_part j.on a b) p.2 f.1),
      )

  from_width : (joins : List Joined) (a : Part)
      → length (from_part all earlier env a joins).cols ≡ length a.cols + sum_by (λ m. m) (widths_at (map (λ j. source_part all earlier env j.source) joins))
  from_width [] a = omega arith
  from_width (j ∷ joins) a =
      let b = source_part all earlier env j.source in
      let behind = widths_at (map (λ j. source_part all earlier env j.source) joins) in
      from_width joins (joined_part j.on a b) ∙ ap (λ n. n + sum_by (λ m. m) behind) (joined_width a b)
      ∙ add_assoc (length a.cols) (length b.cols) (sum_by (λ m. m) behind)
      ∙ ap (λ n. length a.cols + n) (sym (sum_by-cons (λ m. m) (length b.cols) behind))

  beside_over : (beside : Beside) (a : Part) → IsBesidePlaced all earlier env a beside → IsBesideFew beside
      → IsBesideOver (length a.cols) beside (widths_at (beside_sources all earlier env beside))
  beside_over (Inners joins) a p f = joins_over joins a p f.1
  beside_over (Outer side call j) a p f = (f.1, p.1.1)

  besides_width : (beside : Beside) (a : Part) → length (beside_part all earlier env a beside).cols ≡ beside_width (length a.cols) beside (widths_at (beside_sources all earlier env beside))
  besides_width (Inners joins) a = from_width joins a
  besides_width (Outer side call j) a = length-range_with_len (a.count + (source_part all earlier env j.source).count) (length call.output)

pub names_sources : NamesSources
names_sources all earlier env name (Extract d) p w = tt
names_sources all earlier env name (Select q) p w =
    let a = source_part all earlier env q.source in (
      beside_over all earlier env q.beside a p.1 w.1,
      subst (λ (n : ℕ). IsQueryOver n q) (besides_width all earlier env q.beside a) (query_over q (beside_part all earlier env a q.beside) p.2 w.2 w.3 w.4),
    )
names_sources all earlier env name (Process source call) p w = tt
names_sources all earlier env name (Reduce source on presort call) p w = (w.1, p.1, (w.2, p.2))
names_sources all earlier env name (Combine source before other after on call) p w = ((w.4, p.2.1), (w.1, p.3), (w.3, p.4))
names_sources all earlier env name (Output o) p w = tt
