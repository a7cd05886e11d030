use Rattle.std.specs.Ordering.{eq_by_cmp}
use Rattle.scope_value.specs.Order.{row_cmp, row_eq-decides}
use Rattle.scope_value.proofs.BagLemmas.{bag_from_moves, moves_from_bag}
use Rattle.scope_value.proofs.laws.bag_law.Goals as goal

pub returns : goal.returns
returns c = λ rows others. (moves_from_bag row_eq-decides rows others, bag_from_moves (eq_by_cmp row_cmp) rows others)
