use Rattle.std.proofs.Common.{◌≡◌, take}
use Rattle.scope_value.specs.Keys.{directed}
use Rattle.scope_value.specs.Order.{value_cmp}
use Rattle.logical_trees.specs.Rows.{first_in}
use Rattle.plain_meaning.proofs.aggregate.first_in.Given as goal

abbrev pub invariant-loop-value : goal.invariant-loop-value
invariant-loop-value l = l.first ≡ first_in (directed l.down value_cmp) (take l.value-index l.values.items)
