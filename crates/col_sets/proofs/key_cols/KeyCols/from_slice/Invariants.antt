use Rattle.std.proofs.Common.{◌≡◌, ◌+◌, take}
use Rattle.col_sets.specs.Keys.{IsKey}
use Rattle.col_sets.proofs.key_cols.KeyCols.from_slice.Given as goal

abbrev pub invariant-loop-c : goal.invariant-loop-c
invariant-loop-c l = (l.key ≡ take (l.c-index + 1) l.cols) × IsKey l.key
