use Rattle.std.proofs.Common.{◌≡◌, ◌++◌, take}
use Rattle.std.specs.List.{flat_map}
use Rattle.binding_causes.specs.Limits.{one_or_none}
use Rattle.binding_causes.proofs.inputs.push_mentions.Given as goal

abbrev pub invariant-loop-number : goal.invariant-loop-number
invariant-loop-number l = l.mentions.items ≡ l.initial.mentions.items ++ flat_map one_or_none (take l.number-index l.numbers)
