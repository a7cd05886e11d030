-- What the tests of the bounds of a Dag measure.
use Rattle.std.specs.Prelude.{◌≡◌, true}
use Rattle.logical_trees.specs.Tree.{Expression}
use Rattle.logical_dag.specs.declared.bounds.Widths.{Widths}
use Rattle.logical_dag.specs.Bounds.{filter_depth, block_width, is_narrow}

-- all expressions of the tree are within the bounds, and these are the widths at its top
pub record AreWidths (t : Expression) (w : Widths) : Type 0 where
  pub narrow : is_narrow t ≡ true
  pub filters : w.filters ≡ filter_depth t
  pub leaves : w.leaves ≡ block_width t
