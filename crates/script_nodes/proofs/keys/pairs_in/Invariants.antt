use Rattle.std.proofs.Common.{◌≡◌, map, take}
use Rattle.script_nodes.specs.Steps.{column_at}
use Rattle.script_nodes.proofs.keys.pairs_in.Given as goal

abbrev pub invariant-loop-a : goal.invariant-loop-a
invariant-loop-a l = l.pairs.items ≡ map (λ p. (column_at l.left p.0, column_at l.right p.1)) (take l.a-index l.on)
