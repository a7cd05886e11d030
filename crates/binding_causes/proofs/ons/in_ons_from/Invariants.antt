use Rattle.std.proofs.Common.{◌≡◌, ◌+◌, take, drop}
use Rattle.binding_causes.specs.Asked.{ons_from}
use Rattle.binding_causes.specs.Found.{either, any_of, in_on}
use Rattle.binding_causes.proofs.ons.in_ons_from.Given as goal

-- what is found so far, and what is left
abbrev pub invariant-loop-at : goal.invariant-loop-at
invariant-loop-at l =
    either l.found (any_of in_on (ons_from (take (l.at + 1) l.inputs) (drop (l.at + 1) l.inputs) (drop l.at l.more)))
    ≡ any_of in_on (ons_from (take 1 l.inputs) (drop 1 l.inputs) l.more)
