use Rattle.std.proofs.Common.{◌≡◌, take}
use Rattle.plain_meaning.specs.Plain.{merged_over}
use Rattle.plain_meaning.proofs.joins.merged_row.Given as goal

abbrev pub invariant-loop-c : goal.invariant-loop-c
invariant-loop-c l = l.row ≡ merged_over (take l.c-index l.cols) l.left l.right l.r l.s
