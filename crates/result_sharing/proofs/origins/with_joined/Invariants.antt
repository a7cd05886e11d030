use Rattle.std.proofs.Common.{◌≡◌, ◌∷◌, map, take}
use Rattle.result_sharing.specs.Origins.{source_of, source_now}
use Rattle.result_sharing.proofs.origins.with_joined.Given as goal

abbrev pub invariant-loop-join : goal.invariant-loop-join
invariant-loop-join l = map source_now l.origins.items ≡ source_of l.earlier l.source ∷ map (λ j. source_of l.earlier j.source) (take l.join-index l.joins)
