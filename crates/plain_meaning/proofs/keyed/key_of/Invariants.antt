use Rattle.std.proofs.Common.{◌≡◌, take, map}
use Rattle.structural_props.specs.Rows.{value_at}
use Rattle.plain_meaning.proofs.keyed.key_of.Given as goal

abbrev pub invariant-loop-c : goal.invariant-loop-c
invariant-loop-c l = l.values ≡ map (value_at l.cols l.row) (take l.c-index l.key)
