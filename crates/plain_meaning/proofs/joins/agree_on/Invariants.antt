use Rattle.std.proofs.Common.{◌≡◌, drop}
use Rattle.logical_trees.specs.Rows.{agree_on}
use Rattle.plain_meaning.proofs.joins.agree_on.Given as goal

abbrev pub invariant-loop-mine : goal.invariant-loop-mine
invariant-loop-mine l = agree_on l.on l.left l.right l.r l.s ≡ agree_on (drop l.mine-index l.on) l.left l.right l.r l.s
