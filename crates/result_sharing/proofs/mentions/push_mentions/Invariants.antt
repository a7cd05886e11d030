use Rattle.std.proofs.Common.{◌≡◌, ◌++◌, map, take}
use Rattle.std.specs.List.{flat_map}
use Rattle.result_sharing.specs.Origins.{mention_of, source_now}
use Rattle.result_sharing.proofs.mentions.push_mentions.Given as goal

abbrev pub invariant-loop-origin : goal.invariant-loop-origin
invariant-loop-origin l = l.mentions.items ≡ l.initial.mentions.items ++ flat_map mention_of (map source_now (take l.origin-index l.origins))
