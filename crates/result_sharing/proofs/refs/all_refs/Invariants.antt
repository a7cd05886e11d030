use Rattle.std.proofs.Common.{◌≡◌, map, take}
use Rattle.script_meaning.specs.Bound.{parts_of}
use Rattle.script_meaning.specs.Part.{Part}
use Rattle.result_sharing.proofs.refs.all_refs.Given as goal

abbrev pub invariant-loop-at : goal.invariant-loop-at
invariant-loop-at l = l.known.items ≡ map (λ (p : Part). p.refs) (take l.at (parts_of l.script))
