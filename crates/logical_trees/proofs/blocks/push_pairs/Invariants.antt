-- The equalities of the first pairs have been added.
use Rattle.std.proofs.Common.{◌≡◌, ◌+◌, ◌++◌, map, take, length}
use Rattle.logical_trees.specs.Blocks.{equality}
use Rattle.logical_trees.proofs.blocks.push_pairs.Given as goal

abbrev pub invariant-loop-left : goal.invariant-loop-left
invariant-loop-left l = record {
  added : l.equalities.items ≡ l.fn.equalities.items ++ map (equality l.node) (take l.left-index l.on);
  room : length l.equalities.items ≡ length l.fn.equalities.items + l.left-index;
}
