use Rattle.std.proofs.Common.{◌≡◌, take}
use Rattle.binding_causes.specs.Found.{any_of, in_item}
use Rattle.binding_causes.proofs.exprs.in_each_item.Given as goal

abbrev pub invariant-loop-item : goal.invariant-loop-item
invariant-loop-item l = l.found ≡ any_of (in_item l.names) (take l.item-index l.items)
