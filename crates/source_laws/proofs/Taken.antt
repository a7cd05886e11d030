-- What a command numbers, scans and refers to is that of its sources, and then its own.
use Rattle.std.proofs.Common.{◌≡◌, ℕ, ◌+◌, Bool, true, false, List, [], ◌∷◌, ◌++◌, map, flat_map, length, refl, sym, ap, ap₂, ◌∙◌, append_assoc, append-nil, arith, Option, Some, None}
use Rattle.std.specs.Prelude.{sum_by}
use Rattle.std.proofs.Math.Nat.{add_assoc}
use Rattle.std.proofs.lemmas.List.{length-append}
use Rattle.std.proofs.lemmas.List.Sums.{sum_by-cons}
use Rattle.col_sets.specs.declared.dir.Dir.{Dir}
use Rattle.scope_expr.specs.declared.expr.Expr.{Expr}
use Rattle.logical_dag.specs.Scripts.{scans_of}
use Rattle.placed_trees.specs.declared.command.Command.TheVariants.{Extract, Select, Process, Reduce, Combine, Output}
use Rattle.placed_trees.specs.declared.query.Beside.{Beside}
use Rattle.placed_trees.specs.declared.query.Beside.TheVariants.{Inners, Outer}
use Rattle.placed_trees.specs.declared.query.Grouping.{Grouping}
use Rattle.placed_trees.specs.declared.query.Joined.{Joined}
use Rattle.placed_trees.specs.declared.query.Query.{Query}
use Rattle.placed_trees.specs.declared.statement.Statement.{Statement}
use Rattle.placed_trees.specs.Inputs.{input_at}
use Rattle.script_meaning.specs.Bound.{placed, source_part, from_part, beside_part}
use Rattle.script_meaning.specs.Meaning.{order_list}
use Rattle.script_meaning.specs.Part.{Part, join_on, joined_part, combine_on, filter_opt, grouping_opt, project_part, unique_opt, first_opt, query_part}
use Rattle.script_meaning.proofs.Built.{scans_one, scans_two}
use Rattle.script_meaning.proofs.Reached.{refs_query}
use Rattle.script_nodes.specs.Over.{beside_fresh, grouping_fresh}
use Rattle.source_laws.specs.Sources.{beside_sources, scan_nodes}
use Rattle.source_laws.specs.Laws.{CountsSources, EachTakes}

-- ---- numbers

count_filter : (o : Option Expr) (a : Part) → (filter_opt o a).count ≡ a.count
count_filter None a = refl
count_filter (Some e) a = refl

count_grouping : (o : Option Grouping) (a : Part) → (grouping_opt o a).count ≡ a.count + grouping_fresh o
count_grouping None a = omega arith
count_grouping (Some g) a = refl

count_unique : (b : Bool) (a : Part) → (unique_opt b a).count ≡ a.count
count_unique false a = refl
count_unique true a = omega arith

count_first : (o : Option ℕ) (order : List (ℕ × Dir)) (a : Part) → (first_opt o order a).count ≡ a.count
count_first None order a = refl
count_first (Some n) order a = refl

count_query : (q : Query) (a : Part) → (query_part q a).count ≡ a.count + grouping_fresh q.group + length q.items
count_query q a =
    count_first q.top (order_list q.order) _ ∙ count_unique q.distinct _ ∙ count_filter q.having _
    ∙ ap (λ n. n + length q.items) (count_grouping q.group (filter_opt q.test a) ∙ ap (λ n. n + grouping_fresh q.group) (count_filter q.test a))

-- ---- the scans of a SELECT are those of what it stands over

scans_filter : (o : Option Expr) (a : Part) → (filter_opt o a).scans ≡ a.scans
scans_filter None a = refl
scans_filter (Some e) a = refl

scans_grouping : (o : Option Grouping) (a : Part) → (grouping_opt o a).scans ≡ a.scans
scans_grouping None a = refl
scans_grouping (Some g) a = refl

scans_unique : (b : Bool) (a : Part) → (unique_opt b a).scans ≡ a.scans
scans_unique false a = refl
scans_unique true a = refl

scans_first : (o : Option ℕ) (order : List (ℕ × Dir)) (a : Part) → (first_opt o order a).scans ≡ a.scans
scans_first None order a = refl
scans_first (Some n) order a = refl

scans_query : (q : Query) (a : Part) → (query_part q a).scans ≡ a.scans
scans_query q a =
    scans_first q.top (order_list q.order) _ ∙ scans_unique q.distinct _ ∙ scans_filter q.having _ ∙ scans_grouping q.group _ ∙ scans_filter q.test a

module _ (name : ℕ → ℕ) (s c : ℕ) where
  abbrev nodes_in : Part → List (ℕ × List ℕ)
  nodes_in a = scans_of (a.tree name s c)

  nodes_filter : (o : Option Expr) (a : Part) → nodes_in (filter_opt o a) ≡ nodes_in a
  nodes_filter None a = refl
  nodes_filter (Some e) a = scans_one _ (a.tree name s c) refl

  nodes_grouping : (o : Option Grouping) (a : Part) → nodes_in (grouping_opt o a) ≡ nodes_in a
  nodes_grouping None a = refl
  nodes_grouping (Some g) a = scans_one _ (a.tree name s c) refl

  nodes_unique : (b : Bool) (a : Part) → nodes_in (unique_opt b a) ≡ nodes_in a
  nodes_unique false a = refl
  nodes_unique true a = scans_one _ (a.tree name s c) refl

  nodes_first : (o : Option ℕ) (order : List (ℕ × Dir)) (a : Part) → nodes_in (first_opt o order a) ≡ nodes_in a
  nodes_first None order a = refl
  nodes_first (Some n) order a = scans_one _ (a.tree name s c) refl

  nodes_project : (items : List Expr) (a : Part) → nodes_in (project_part items a) ≡ nodes_in a
  nodes_project items a = scans_one _ (a.tree name s c) refl

  nodes_query : (q : Query) (a : Part) → nodes_in (query_part q a) ≡ nodes_in a
  nodes_query q a =
      let tested = filter_opt q.test a in
      let grouped = grouping_opt q.group tested in
      let given = project_part q.items grouped in
      let left = filter_opt q.having given in
      nodes_first q.top (order_list q.order) (unique_opt q.distinct left) ∙ nodes_unique q.distinct left ∙ nodes_filter q.having given ∙ nodes_project q.items grouped
      ∙ nodes_grouping q.group tested ∙ nodes_filter q.test a

-- ---- several sources

module _ (all : List ℕ) (earlier : List Statement) (env : List Part) where
  abbrev joined_sources : List Joined → List Part
  joined_sources joins = map (λ j. source_part all earlier env j.source) joins

  count_from : (joins : List Joined) (a : Part) → (from_part all earlier env a joins).count ≡ a.count + sum_by (λ (p : Part). p.count) (joined_sources joins)
  count_from [] a = omega arith
  count_from (j ∷ joins) a =
      let b = source_part all earlier env j.source in
      count_from joins (joined_part j.on a b) ∙ add_assoc a.count b.count (sum_by (λ (p : Part). p.count) (joined_sources joins))
      ∙ ap (λ n. a.count + n) (sym (sum_by-cons (λ (p : Part). p.count) b (joined_sources joins)))

  count_beside : (beside : Beside) (a : Part) → (beside_part all earlier env a beside).count ≡ a.count + sum_by (λ (p : Part). p.count) (beside_sources all earlier env beside) + beside_fresh beside
  count_beside (Inners joins) a = let h = count_from joins a in omega (arith, h)
  count_beside (Outer side call j) a = omega arith

  scans_from : (joins : List Joined) (a : Part) → (from_part all earlier env a joins).scans ≡ a.scans ++ flat_map (λ (p : Part). p.scans) (joined_sources joins)
  scans_from [] a = sym (append-nil a.scans)
  scans_from (j ∷ joins) a =
      let b = source_part all earlier env j.source in
      scans_from joins (joined_part j.on a b) ∙ append_assoc a.scans b.scans (flat_map (λ (p : Part). p.scans) (joined_sources joins))

  scans_beside : (beside : Beside) (a : Part) → (beside_part all earlier env a beside).scans ≡ a.scans ++ flat_map (λ (p : Part). p.scans) (beside_sources all earlier env beside)
  scans_beside (Inners joins) a = scans_from joins a
  scans_beside (Outer side call j) a = ap (λ l. a.scans ++ l) (sym (append-nil (source_part all earlier env j.source).scans))

  refs_from : (joins : List Joined) (a : Part) → (from_part all earlier env a joins).refs ≡ a.refs ++ flat_map (λ (p : Part). p.refs) (joined_sources joins)
  refs_from [] a = sym (append-nil a.refs)
  refs_from (j ∷ joins) a =
      let b = source_part all earlier env j.source in
      refs_from joins (joined_part j.on a b) ∙ append_assoc a.refs b.refs (flat_map (λ (p : Part). p.refs) (joined_sources joins))

  refs_beside : (beside : Beside) (a : Part) → (beside_part all earlier env a beside).refs ≡ a.refs ++ flat_map (λ (p : Part). p.refs) (beside_sources all earlier env beside)
  refs_beside (Inners joins) a = refs_from joins a
  refs_beside (Outer side call j) a = ap (λ l. a.refs ++ l) (sym (append-nil (source_part all earlier env j.source).refs))

  module _ (name : ℕ → ℕ) where
    nodes_from : (joins : List Joined) (a : Part) (s c : ℕ)
        → nodes_in name s c (from_part all earlier env a joins) ≡ nodes_in name s c a ++ scan_nodes name (s + length a.scans) (c + a.count) (joined_sources joins)
    nodes_from [] a s c = sym (append-nil (nodes_in name s c a))
    nodes_from (j ∷ joins) a s c =
        let b = source_part all earlier env j.source in
        nodes_from joins (joined_part j.on a b) s c
        ∙ ap₂ (λ l m. l ++ m) (scans_two (join_on a b j.on c) (a.tree name s c) (b.tree name (s + length a.scans) (c + a.count)) refl)
        (ap₂ (λ m n. scan_nodes name m n (joined_sources joins)) (ap (λ n. s + n) (length-append a.scans b.scans) ∙ sym (add_assoc s (length a.scans) (length b.scans))) (sym (add_assoc c a.count b.count)))
        ∙ append_assoc (nodes_in name s c a) (nodes_in name (s + length a.scans) (c + a.count) b)
        (scan_nodes name (s + length a.scans + length b.scans) (c + a.count + b.count) (joined_sources joins))

    nodes_beside : (beside : Beside) (a : Part) (s c : ℕ)
        → nodes_in name s c (beside_part all earlier env a beside) ≡ nodes_in name s c a ++ scan_nodes name (s + length a.scans) (c + a.count) (beside_sources all earlier env beside)
    nodes_beside (Inners joins) a s c = nodes_from joins a s c
    nodes_beside (Outer side call j) a s c =
        let b = source_part all earlier env j.source in
        scans_two (combine_on a b j.on None None call c) (a.tree name s c) (b.tree name (s + length a.scans) (c + a.count)) refl
        ∙ ap (λ l. nodes_in name s c a ++ l) (sym (append-nil (nodes_in name (s + length a.scans) (c + a.count) b)))

-- ---- a command

pub counts_sources : CountsSources
counts_sources all earlier env (Extract d) = omega arith
counts_sources all earlier env (Select q) =
    let a = source_part all earlier env q.source in
    let sources = beside_sources all earlier env q.beside in
    count_query q (beside_part all earlier env a q.beside)
    ∙ together _ _ _ _ _ _ _ (count_beside all earlier env q.beside a) (sum_by-cons (λ (p : Part). p.count) a sources)
  where
    together : (whole first behind total own grouped items : ℕ) → whole ≡ first + behind + own → total ≡ first + behind → whole + grouped + items ≡ total + (own + grouped + items)
    together whole first behind total own grouped items h k = omega arith
counts_sources all earlier env (Process source call) = omega arith
counts_sources all earlier env (Reduce source on presort call) = omega arith
counts_sources all earlier env (Combine source before other after on call) = omega arith
counts_sources all earlier env (Output w) = omega arith

pub each_takes : EachTakes
each_takes all earlier env (Extract d) = record { scans = refl; refs = refl; nodes = λ name n m. refl }
each_takes all earlier env (Select q) =
    let a = source_part all earlier env q.source in
    let b = beside_part all earlier env a q.beside in
    record {
      scans = scans_query q b ∙ scans_beside all earlier env q.beside a;
      refs = refs_query q b ∙ refs_beside all earlier env q.beside a;
      nodes = λ name n m. nodes_query name n m q b ∙ nodes_beside all earlier env name q.beside a n m;
    }
each_takes all earlier env (Process source call) =
    let a = source_part all earlier env source in
    record {
      scans = sym (append-nil a.scans);
      refs = sym (append-nil a.refs);
      nodes = λ name n m. scans_one _ (a.tree name n m) refl ∙ sym (append-nil (nodes_in name n m a));
    }
each_takes all earlier env (Reduce source on presort call) =
    let a = source_part all earlier env source in
    record {
      scans = sym (append-nil a.scans);
      refs = sym (append-nil a.refs);
      nodes = λ name n m. scans_one _ (a.tree name n m) refl ∙ sym (append-nil (nodes_in name n m a));
    }
each_takes all earlier env (Combine source before other after on call) =
    let a = source_part all earlier env source in
    let b = source_part all earlier env other in
    record {
      scans = ap (λ l. a.scans ++ l) (sym (append-nil b.scans));
      refs = ap (λ l. a.refs ++ l) (sym (append-nil b.refs));
      nodes = λ name n m.
          scans_two (combine_on a b on before after call m) (a.tree name n m) (b.tree name (n + length a.scans) (m + a.count)) refl
          ∙ ap (λ l. nodes_in name n m a ++ l) (sym (append-nil (nodes_in name (n + length a.scans) (m + a.count) b)));
    }
each_takes all earlier env (Output w) =
    let a = placed all env (input_at earlier w.source) in
    record { scans = sym (append-nil a.scans); refs = sym (append-nil a.refs); nodes = λ name n m. sym (append-nil (nodes_in name n m a)) }
