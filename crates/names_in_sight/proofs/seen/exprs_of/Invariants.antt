use Rattle.std.proofs.Common.{◌≡◌, map, take}
use Rattle.names_in_sight.proofs.seen.exprs_of.Given as goal

abbrev pub invariant-loop-output : goal.invariant-loop-output
invariant-loop-output l = l.exprs ≡ map (λ o. o.1) (take l.output-index l.outputs)
