-- A statement reads earlier ones alone.
use Rattle.std.proofs.Common.{◌≡◌, ◌+◌, ◌*◌, take}
use Rattle.std.specs.Prelude.{sum_by}
use Rattle.script_meaning.specs.Dag.{place_in}
use Rattle.script_meaning.specs.Part.{Part}
use Rattle.result_trees.specs.Steps.{stand_for, AreSourcesMade}
use Rattle.result_trees.proofs.trees.+result_tree.Given as goal

abbrev pub decreases-source_tree : goal.decreases-source_tree
decreases-source_tree l = 4 * l.at + 1

abbrev pub decreases-source_trees : goal.decreases-source_trees
decreases-source_trees l = 4 * l.at + 2

abbrev pub decreases-statement_tree : goal.decreases-statement_tree
decreases-statement_tree l = 4 * l.at + 3

abbrev pub decreases-read_tree : goal.decreases-read_tree
decreases-read_tree l = 4 * l.k + 4

-- the trees so far, and the number behind their columns
abbrev pub invariant-source_trees-loop-origin : goal.invariant-source_trees-loop-origin
invariant-source_trees-loop-origin l = record {
  made : AreSourcesMade (place_in l.sharing.kept.items) l.next (stand_for l.script (take l.origin-index l.origins)) l.fn.scans.items l.scans.items l.sources.items;
  behind : l.behind ≡ l.next + sum_by (λ (p : Part). p.count) (stand_for l.script (take l.origin-index l.origins));
}
