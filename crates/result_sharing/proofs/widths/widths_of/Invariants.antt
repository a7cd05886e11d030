use Rattle.std.proofs.Common.{◌≡◌, map, length, take}
use Rattle.script_meaning.specs.Bound.{parts_of}
use Rattle.script_meaning.specs.Part.{Part}
use Rattle.result_sharing.proofs.widths.widths_of.Given as goal

abbrev pub invariant-loop-at : goal.invariant-loop-at
invariant-loop-at l = l.widths.items ≡ map (λ (p : Part). length p.cols) (take l.at (parts_of l.script))
