use Rattle.std.proofs.Common.{drop}
use Rattle.std.specs.List.{flat_map}
use Rattle.user_ops.specs.Adding.{IsAdding}
use Rattle.scope_shipped.specs.InnerPairs.{pairs_of}
use Rattle.scope_shipped.proofs.inner_pairs.push_each_pair.Given as goal

abbrev pub invariant-loop-row : goal.invariant-loop-row
invariant-loop-row l =
    IsAdding
    l.initial.out.items
    l.out.items
    (flat_map (pairs_of l.right) (drop l.row-index l.left))
    (flat_map (pairs_of l.right) l.left)
