use Rattle.std.proofs.Common.{◌≡◌, take}
use Rattle.plain_meaning.specs.Plain.{partners}
use Rattle.plain_meaning.proofs.joins.partners.Given as goal

abbrev pub invariant-loop-s : goal.invariant-loop-s
invariant-loop-s l = l.pairs.items ≡ partners l.on l.left l.right l.cols l.r (take l.s-index l.b)
