use Rattle.std.proofs.Common.{◌≡◌, take}
use Rattle.col_sets.specs.Sets.{set_of}
use Rattle.col_sets.proofs.col_set.ColSet.of.Given as goal

abbrev pub invariant-loop-c : goal.invariant-loop-c
invariant-loop-c l = l.set ≡ set_of (take l.c-index l.cols)
