use Rattle.std.proofs.Common.{◌≡◌, map, take}
use Rattle.scope_expr.specs.Moved.{moved}
use Rattle.script_nodes.specs.Steps.{column_at}
use Rattle.script_nodes.proofs.handed.exprs_in.Given as goal

abbrev pub invariant-loop-item : goal.invariant-loop-item
invariant-loop-item l = l.all ≡ map (moved (column_at l.cols)) (take l.item-index l.items)
