use Rattle.std.proofs.Common.{sym, subst}
use Rattle.logical_trees.specs.Tree.{tree_of}
use Rattle.logic_tests.specs.Tall.{IsOverFour}
use Rattle.logic_tests.proofs.TallFormed.{filter-over}
use Rattle.logic_tests.proofs.tall.filters.Goals as goal

pub loop-preserved : goal.loop-preserved
loop-preserved c = subst IsOverFour (sym c.in_ok-tree-2.ensures) (filter-over (tree_of c.loop.tree) c.in_ok-link.field-0 c.in_ok-link.ensures c.loop.invariant)
