-- What is asked of a command and of what stands for its sources, by the numbers of their columns.
use Rattle.std.specs.Prelude.{ℕ, ◌+◌, List, [], ◌∷◌, length, map, sum_by, Option, Some, None}
use Rattle.col_sets.specs.declared.dir.Dir.{Dir}
use Rattle.column_ranks.specs.Rising.{IsRising}
use Rattle.placed_trees.specs.declared.command.Command.{Command}
use Rattle.placed_trees.specs.declared.command.Command.TheVariants.{Extract, Select, Process, Reduce, Combine, Output}
use Rattle.placed_trees.specs.declared.query.Beside.{Beside}
use Rattle.placed_trees.specs.declared.query.Beside.TheVariants.{Inners, Outer}
use Rattle.placed_trees.specs.declared.query.Grouping.{Grouping}
use Rattle.placed_trees.specs.declared.query.Joined.{Joined}
use Rattle.placed_trees.specs.declared.query.Query.{Query}
use Rattle.script_meaning.specs.Meaning.{key_places, order_list}
use Rattle.script_meaning.specs.Placed.{IsBelowOpt, AreBelow, ArePlaces, ArePairs, IsGroupingBelow, IsOrderBelow, IsPresortBelow}
use Rattle.script_meaning.specs.Within.{IsFew, IsOrderFew, IsGroupingFew, IsTopOrdered}
use Rattle.script_nodes.specs.declared.made.Made.{Made}

-- ---- places are there, and lists of keys are short, over sources of these numbers of columns

abbrev pub IsOnOver : ℕ → ℕ → List (ℕ × ℕ) → Type 0
IsOnOver m n on = IsFew (length on) × ArePairs m n on

abbrev pub IsPresortOver : ℕ → Option (List (ℕ × Dir)) → Type 0
IsPresortOver n presort = IsOrderFew presort × IsPresortBelow n presort

abbrev pub AreJoinsOver : ℕ → List Joined → List ℕ → Type 0
AreJoinsOver n [] [] = Unit {0}
AreJoinsOver n (j ∷ joins) (m ∷ widths) = IsOnOver n m j.on × AreJoinsOver (n + m) joins widths
AreJoinsOver n joins widths = ⊥

abbrev pub IsBesideOver : ℕ → Beside → List ℕ → Type 0
IsBesideOver n (Inners joins) widths = AreJoinsOver n joins widths
IsBesideOver n (Outer side call j) (m ∷ []) = IsOnOver n m j.on
IsBesideOver n (Outer side call j) widths = ⊥

-- how many columns the sources of a SELECT have together, and how many are left where it is grouped
abbrev pub beside_width : ℕ → Beside → List ℕ → ℕ
beside_width n (Inners joins) widths = n + sum_by (λ m. m) widths
beside_width n (Outer side call j) widths = length call.output

abbrev pub grouped_width : ℕ → Option Grouping → ℕ
grouped_width n None = n
grouped_width n (Some g) = length (key_places n g.written) + length g.aggs

pub record IsQueryOver (n : ℕ) (q : Query) : Type 0 where
  pub tests : IsBelowOpt n q.test
  pub groups : IsGroupingBelow n q.group
  pub gives : AreBelow (grouped_width n q.group) q.items
  pub has : IsBelowOpt (length q.items) q.having
  pub orders : IsOrderBelow (length q.items) (order_list q.order)
  pub few_keys : IsGroupingFew q.group
  pub few_orders : IsOrderFew q.order
  pub top : IsTopOrdered q.top q.order

abbrev pub IsOver : Command → List ℕ → Type 0
IsOver (Extract d) (n ∷ []) = Unit {0}
IsOver (Select q) (n ∷ widths) = IsBesideOver n q.beside widths × IsQueryOver (beside_width n q.beside widths) q
IsOver (Process source call) (n ∷ []) = Unit {0}
IsOver (Reduce source on presort call) (n ∷ []) = IsFew (length on) × ArePlaces n on × IsPresortOver n presort
IsOver (Combine source before other after on call) (m ∷ n ∷ []) = IsOnOver m n on × IsPresortOver m before × IsPresortOver n after
IsOver (Output w) (n ∷ []) = Unit {0}
IsOver c widths = ⊥

abbrev pub widths_of : List Made → List ℕ
widths_of = map (λ m. length m.cols.items)

-- ---- the numbers of columns

-- how many columns a command numbers itself
abbrev pub beside_fresh : Beside → ℕ
beside_fresh (Inners joins) = 0
beside_fresh (Outer side call j) = length call.output

abbrev pub grouping_fresh : Option Grouping → ℕ
grouping_fresh None = 0
grouping_fresh (Some g) = length g.aggs

abbrev pub fresh : Command → ℕ
fresh (Extract d) = 0
fresh (Select q) = beside_fresh q.beside + grouping_fresh q.group + length q.items
fresh (Process source call) = length call.output
fresh (Reduce source on presort call) = length call.output
fresh (Combine source before other after on call) = length call.output
fresh (Output w) = 0

-- the number behind those of all sources
abbrev pub next_behind : List Made → ℕ
next_behind [] = 0
next_behind (m ∷ []) = m.next
next_behind (m ∷ n ∷ mades) = next_behind (n ∷ mades)

-- each source's columns are numbered behind those of the one before it, from a on
abbrev pub AreBehind : ℕ → List Made → Type 0
AreBehind a [] = Unit {0}
AreBehind a (m ∷ mades) = IsRising a m.cols.items m.next × AreBehind m.next mades
