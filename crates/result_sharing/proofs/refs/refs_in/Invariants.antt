use Rattle.std.proofs.Common.{◌≡◌, map, take}
use Rattle.std.specs.List.{flat_map}
use Rattle.result_sharing.specs.Origins.{source_now}
use Rattle.result_sharing.specs.Steps.{origin_refs}
use Rattle.result_sharing.proofs.refs.refs_in.Given as goal

abbrev pub invariant-loop-origin : goal.invariant-loop-origin
invariant-loop-origin l = l.refs ≡ flat_map (origin_refs l.all l.known) (map source_now (take l.origin-index l.origins))
