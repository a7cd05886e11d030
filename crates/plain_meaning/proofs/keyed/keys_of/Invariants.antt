use Rattle.std.proofs.Common.{◌≡◌, take, map}
use Rattle.structural_props.specs.Rows.{key_of}
use Rattle.plain_meaning.proofs.keyed.keys_of.Given as goal

abbrev pub invariant-loop-row : goal.invariant-loop-row
invariant-loop-row l = l.keys.items ≡ map (key_of l.cols l.key) (take l.row-index l.rows)
