use Rattle.std.proofs.Common.{◌≡◌, take}
use Rattle.plain_meaning.specs.Plain.{joined_over}
use Rattle.plain_meaning.proofs.joins.joined_over.Given as goal

abbrev pub invariant-loop-r : goal.invariant-loop-r
invariant-loop-r l = l.pairs.items ≡ joined_over l.on l.left l.right l.cols (take l.r-index l.a) l.b
