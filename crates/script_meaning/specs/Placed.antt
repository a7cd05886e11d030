-- Which scripts name what is there: the places of columns, and the statements whose results they read.
use Rattle.std.specs.Prelude.{◌<◌, ℕ, List, [], ◌∷◌, ◌++◌, length, Option, Some, None, IsSomeAnd}
use Rattle.col_sets.specs.declared.dir.Dir.{Dir}
use Rattle.script_trees.specs.declared.agg.AggKind.{AggKind}
use Rattle.scope_expr.specs.declared.expr.Expr.{Expr}
use Rattle.scope_expr.specs.Kinds.{EachColumn}
use Rattle.placed_trees.specs.declared.command.Command.{Command}
use Rattle.placed_trees.specs.declared.command.Command.TheVariants.{Extract, Select, Process, Reduce, Combine, Output}
use Rattle.placed_trees.specs.declared.query.Beside.{Beside}
use Rattle.placed_trees.specs.declared.query.Beside.TheVariants.{Inners, Outer}
use Rattle.placed_trees.specs.declared.query.Grouping.{Grouping}
use Rattle.placed_trees.specs.declared.query.Joined.{Joined}
use Rattle.placed_trees.specs.declared.query.Query.{Query}
use Rattle.placed_trees.specs.declared.source.Source.{Source}
use Rattle.placed_trees.specs.declared.source.Source.TheVariants.{FromResult, FromStream}
use Rattle.placed_trees.specs.declared.source.StoredPlaces.{StoredPlaces}
use Rattle.placed_trees.specs.declared.statement.Statement.{Statement}
use Rattle.placed_trees.specs.Inputs.{input_at}
use Rattle.script_meaning.specs.Meaning.{order_list}
use Rattle.script_meaning.specs.Part.{Part, joined_part, filter_opt, grouping_opt, project_part, unique_opt}
use Rattle.script_meaning.specs.Bound.{placed, source_part, beside_part, bound, mentions}

-- each column is one of the first n
abbrev pub IsBelow : ℕ → Expr → Type 0
IsBelow n e = EachColumn (λ p k. p < n) e

abbrev pub IsBelowOpt : ℕ → Option Expr → Type 0
IsBelowOpt n None = Unit {0}
IsBelowOpt n (Some e) = IsBelow n e

abbrev pub AreBelow : ℕ → List Expr → Type 0
AreBelow n [] = Unit {0}
AreBelow n (e ∷ es) = IsBelow n e × AreBelow n es

abbrev pub AreArgsBelow : ℕ → List (AggKind × Option Expr) → Type 0
AreArgsBelow n [] = Unit {0}
AreArgsBelow n (g ∷ aggs) = IsBelowOpt n g.1 × AreArgsBelow n aggs

abbrev pub ArePlaces : ℕ → List ℕ → Type 0
ArePlaces n [] = Unit {0}
ArePlaces n (p ∷ ps) = (p < n) × ArePlaces n ps

-- so are those of GROUP BY
abbrev pub IsGroupingBelow : ℕ → Option Grouping → Type 0
IsGroupingBelow n None = Unit {0}
IsGroupingBelow n (Some g) = ArePlaces n g.written × AreArgsBelow n g.aggs

abbrev pub IsOrderBelow : ℕ → List (ℕ × Dir) → Type 0
IsOrderBelow n [] = Unit {0}
IsOrderBelow n (k ∷ order) = (k.0 < n) × IsOrderBelow n order

abbrev pub IsPresortBelow : ℕ → Option (List (ℕ × Dir)) → Type 0
IsPresortBelow n None = Unit {0}
IsPresortBelow n (Some order) = IsOrderBelow n order

-- what rows are declared to be stored by are places
abbrev pub IsStoredBelow : ℕ → Option StoredPlaces → Type 0
IsStoredBelow n None = Unit {0}
IsStoredBelow n (Some s) = ArePlaces n s.hash × IsPresortBelow n s.sorted

abbrev pub ArePairs : ℕ → ℕ → List (ℕ × ℕ) → Type 0
ArePairs m n [] = Unit {0}
ArePairs m n (p ∷ on) = (p.0 < m) × (p.1 < n) × ArePairs m n on

-- at least one pair, each with a column of either side
abbrev pub IsOn : Part → Part → List (ℕ × ℕ) → Type 0
IsOn a b on = (0 < length on) × ArePairs (length a.cols) (length b.cols) on

-- what a SELECT names is there, clause by clause
pub record IsQueryPlaced (q : Query) (a : Part) : Type 0 where
  pub tests : IsBelowOpt (length a.cols) q.test
  pub groups : IsGroupingBelow (length (filter_opt q.test a).cols) q.group
  pub gives : AreBelow (length (grouping_opt q.group (filter_opt q.test a)).cols) q.items
  pub has : IsBelowOpt (length (project_part q.items (grouping_opt q.group (filter_opt q.test a))).cols) q.having
  pub orders : IsOrderBelow (length (unique_opt q.distinct (filter_opt q.having (project_part q.items (grouping_opt q.group (filter_opt q.test a))))).cols) (order_list q.order)

-- a result that is read is one of those so far
abbrev pub IsInputThere : List Statement → List Part → Option (List ℕ) → Type 0
IsInputThere earlier env i = IsSomeAnd (input_at earlier i) (λ k. k < length env)

abbrev pub IsSourceThere : List Statement → List Part → Source → Type 0
IsSourceThere earlier env (FromResult i) = IsInputThere earlier env i
IsSourceThere earlier env (FromStream d) = IsStoredBelow (length d.schema) d.stored

abbrev pub AreJoinsPlaced : List ℕ → List Statement → List Part → Part → List Joined → Type 0
AreJoinsPlaced all earlier env a [] = Unit {0}
AreJoinsPlaced all earlier env a (j ∷ more) =
    IsSourceThere earlier env j.source × IsOn a (source_part all earlier env j.source) j.on
    × AreJoinsPlaced all earlier env (joined_part j.on a (source_part all earlier env j.source)) more

abbrev pub IsBesidePlaced : List ℕ → List Statement → List Part → Part → Beside → Type 0
IsBesidePlaced all earlier env a (Inners joins) = AreJoinsPlaced all earlier env a joins
IsBesidePlaced all earlier env a (Outer side call j) = IsSourceThere earlier env j.source × IsOn a (source_part all earlier env j.source) j.on

abbrev pub IsCommandPlaced : List ℕ → List Statement → List Part → Command → Type 0
IsCommandPlaced all earlier env (Extract d) = IsStoredBelow (length d.schema) d.stored
IsCommandPlaced all earlier env (Select q) =
    IsSourceThere earlier env q.source × IsBesidePlaced all earlier env (source_part all earlier env q.source) q.beside
    × IsQueryPlaced q (beside_part all earlier env (source_part all earlier env q.source) q.beside)
IsCommandPlaced all earlier env (Process source call) = IsSourceThere earlier env source
IsCommandPlaced all earlier env (Reduce source on presort call) =
    IsSourceThere earlier env source × ArePlaces (length (source_part all earlier env source).cols) on × IsPresortBelow (length (source_part all earlier env source).cols) presort
IsCommandPlaced all earlier env (Combine source before other after on call) =
    IsSourceThere earlier env source × IsSourceThere earlier env other × IsOn (source_part all earlier env source) (source_part all earlier env other) on
    × IsPresortBelow (length (source_part all earlier env source).cols) before × IsPresortBelow (length (source_part all earlier env other).cols) after
IsCommandPlaced all earlier env (Output w) = IsInputThere earlier env w.source × IsStoredBelow (length (placed all env (input_at earlier w.source)).cols) w.stored

abbrev pub ArePlaced : List ℕ → List Statement → List Part → List Statement → Type 0
ArePlaced all earlier env [] = Unit {0}
ArePlaced all earlier env (s ∷ rest) =
    IsCommandPlaced all earlier env s.command × ArePlaced all (earlier ++ s ∷ []) (env ++ bound all earlier env s.command ∷ []) rest

-- the script names what is there
abbrev pub IsPlaced : List Statement → Type 0
IsPlaced script = ArePlaced (mentions [] script) [] [] script
