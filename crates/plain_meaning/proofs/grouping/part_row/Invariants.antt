use Rattle.std.proofs.Common.{◌≡◌, [], ◌∷◌, take, map}
use Rattle.logical_trees.specs.Rows.{partial_value}
use Rattle.plain_meaning.specs.Steps.{value_in}
use Rattle.plain_meaning.proofs.grouping.part_row.Given as goal

abbrev pub invariant-loop-c : goal.invariant-loop-c
invariant-loop-c l = l.made ≡ map (value_in l.args (λ a. partial_value l.cols a (l.row ∷ [])) l.k) (take l.c-index l.c-items)
