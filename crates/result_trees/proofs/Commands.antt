-- A statement over the trees of its sources.
use Rattle.std.proofs.Common.{◌≡◌, ℕ, ◌+◌, ◌<◌, ◌≤◌, List, [], ◌∷◌, ◌++◌, map, take, length, refl, sym, ap, ap₂, ◌∙◌, subst, arith, Option, Some, slice_get}
use Rattle.std.specs.Prelude.{All}
use Rattle.std.proofs.lemmas.List.{length-take-le}
use Rattle.std.proofs.lemmas.Option.{slice_get_within}
use Rattle.column_ranks.specs.RowLemmas.{map_twice}
use Rattle.logical_dag.specs.declared.dag.ScanDecl.{ScanDecl}
use Rattle.logical_dag.specs.Scripts.{scans_of}
use Rattle.logical_trees.specs.Tree.{tree_of}
use Rattle.placed_trees.specs.declared.command.Command.{Command}
use Rattle.placed_trees.specs.declared.statement.Statement.{Statement}
use Rattle.result_sharing.specs.declared.origin.Origin.{Origin}
use Rattle.result_sharing.specs.Origins.{sources_of, part_of, source_now}
use Rattle.result_sharing.proofs.Sources.{sources_stand}
use Rattle.script_meaning.specs.Bound.{mentions, bound, parts_of}
use Rattle.script_meaning.specs.Dag.{part_at, declared_all}
use Rattle.script_meaning.specs.Part.{Part}
use Rattle.script_meaning.proofs.Shaped.{rising_weaken}
use Rattle.script_nodes.specs.declared.made.Made.{Made}
use Rattle.script_nodes.specs.Made.{IsMade, AreMade, over_parts}
use Rattle.script_nodes.specs.Over.{IsOver, fresh, widths_of, next_behind, AreBehind}
use Rattle.source_laws.specs.Laws.{StandsAt, IsStatementRight}
use Rattle.source_laws.specs.Sources.{IsSameTree, source_parts, scan_nodes, widths_at}
use Rattle.source_laws.proofs.Names.{names_sources}
use Rattle.source_laws.proofs.Over.{is_over}
use Rattle.source_laws.proofs.Standing.{each_stands, each_is_right}
use Rattle.source_laws.proofs.Taken.{counts_sources, each_takes}
use Rattle.result_trees.specs.Results.{IsStanding, IsPartMade}
use Rattle.result_trees.specs.Steps.{IsThere, part_in, stand_for, AreSourcesMade}
use Rattle.result_trees.proofs.Behind.{scans_in, count_in, ends, same_widths, behind}
use Rattle.result_trees.proofs.Sources.{AreThere, all_there, there_sources, parts_before, parts_length, rising_source}

-- from a number on, and so from 0 on
from_first : (c : ℕ) (ms : List Made) → AreBehind c ms → AreBehind 0 ms
from_first c [] h = tt
from_first c (m ∷ ms) h = (rising_weaken 0 c m.next m.cols.items (omega arith) h.0, h.1)

-- what an over_sources promises of the tree that it makes
abbrev pub IsTurned : Command → List Made → Made → Type 0
IsTurned c mades m = (name : ℕ → ℕ) (s n : ℕ) (parts : List Part) → AreMade name s n parts mades → IsMade name s n (over_parts c parts) m

-- the statement at a place of a script, and its sources
module _ (script : List Statement) (standing : IsStanding script) (at : ℕ) (s : Statement) (is : slice_get script at ≡ Some s)
    (origins : List Origin) (found : map source_now origins ≡ sources_of (take at script) s.command) where
  abbrev all : List ℕ
  all = mentions [] script

  abbrev parts : List Part
  parts = parts_of script

  abbrev earlier : List Statement
  earlier = take at script

  abbrev env : List Part
  env = take at parts

  abbrev own : Part
  own = bound all earlier env s.command

  stands : StandsAt script at s
  stands = each_stands script at s is

  right : IsStatementRight script at s
  right = each_is_right script standing.placed standing.within at s is

  wide : length env ≡ at
  wide =
      let l : at < length script = slice_get_within script at s is in
      let n = parts_length script in
      let m : at ≤ length parts = omega (arith, n) in
      length-take-le at parts m

  there : AreThere at (sources_of earlier s.command)
  there = subst (λ (n : ℕ). AreThere n (sources_of earlier s.command)) wide (there_sources all earlier env s.name s.command right.placed right.within)

  pub each_there : All (λ o. IsThere at (source_now o)) origins
  each_there = all_there at origins (subst (λ l. AreThere at l) (sym found) there)

  same : stand_for script origins ≡ source_parts all earlier env s.command
  same =
      sym (map_twice source_now (part_in script) (λ o. part_in script (source_now o)) (λ o. refl) origins)
      ∙ ap (map (part_in script)) found
      ∙ parts_before all parts at (sources_of earlier s.command) there
      ∙ sources_stand all earlier env s.command

  scans_same : (part_at parts at).scans ≡ scans_in (stand_for script origins)
  scans_same = ap (λ (p : Part). p.scans) stands.part ∙ (each_takes all earlier env s.command).scans ∙ ap scans_in (sym same)

  count_same : (part_at parts at).count ≡ count_in (stand_for script origins) + fresh s.command
  count_same = ap (λ (p : Part). p.count) stands.part ∙ counts_sources all earlier env s.command ∙ ap (λ ps. count_in ps + fresh s.command) (sym same)

  pub scans_room : (n : ℕ) → n + length (part_at parts at).scans ≤ 320 → n + length (scans_in (stand_for script origins)) ≤ 320
  scans_room n h = let e = ap length scans_same in omega (arith, e)

  pub columns_room : (c : ℕ) → c + (part_at parts at).count ≤ 128 → c + count_in (stand_for script origins) ≤ 128
  columns_room c h = let e = count_same in omega (arith, e)

  -- ---- over the trees of its sources
  module _ (name : ℕ → ℕ) (c : ℕ) (before after : List ScanDecl) (mades : List Made) (h : AreSourcesMade name c (stand_for script origins) before after mades) where
    pub is_over_made : IsOver s.command (widths_of mades)
    is_over_made =
        subst (IsOver s.command) (sym (same_widths name (length before) c (stand_for script origins) mades h.made ∙ ap widths_at same))
        (names_sources all earlier env s.name s.command right.placed right.within)

    pub are_behind : AreBehind 0 mades
    are_behind = from_first c mades (behind (λ o. part_in script (source_now o)) (λ o. rising_source script (source_now o)) name (length before) c origins mades h.made)

    pub fresh_room : c + (part_at parts at).count ≤ 128 → next_behind mades + fresh s.command ≤ 128
    fresh_room l =
        let e = count_same in
        let f = ends name (length before) c (stand_for script origins) mades h.made in
        omega (arith, e, f)

    pub part_made : (m : Made) → IsTurned s.command mades m → IsPartMade name c (part_at parts at) before after m
    part_made m turned = subst (λ (p : Part). IsPartMade name c p before after m) (sym stands.part) (record { made = here; scans = scans })
      where
        tree : IsSameTree own (over_parts s.command (source_parts all earlier env s.command))
        tree = is_over all earlier env s.command

        over : IsMade name (length before) c (over_parts s.command (source_parts all earlier env s.command)) m
        over = subst (λ (ps : List Part). IsMade name (length before) c (over_parts s.command ps) m) same (turned name (length before) c (stand_for script origins) h.made)

        here : IsMade name (length before) c own m
        here = record {
          tree = over.tree ∙ ap (λ t. t name (length before) c) (sym tree.tree);
          cols = over.cols ∙ ap (map (λ p. c + p)) (sym tree.cols);
          next = over.next ∙ ap (λ n. c + n) (sym tree.count);
        }

        scans : after ≡ before ++ declared_all own.scans (scans_of (tree_of m.tree))
        scans =
            h.scans
            ∙ ap (λ ps. before ++ declared_all (scans_in ps) (scan_nodes name (length before) c ps)) same
            ∙ ap₂ (λ ds ns. before ++ declared_all ds ns) (sym (each_takes all earlier env s.command).scans)
            (sym ((each_takes all earlier env s.command).nodes name (length before) c) ∙ ap scans_of (sym here.tree))
