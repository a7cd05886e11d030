use Rattle.std.proofs.Common.{true}
use Rattle.scope_value.specs.Keys.{keys_cmp, keys_cmp_total, keys_cmp-Equal}
use Rattle.scope_value.proofs.SortedLemmas.{sorted_moves, sorted_rises, sorted_unique}
use Rattle.scope_value.proofs.laws.sorted_bag_law.Goals as goal

pub returns-clause-sorted : goal.returns-clause-sorted
returns-clause-sorted c = λ items rest rows. (sorted_moves (keys_cmp items rest) rows, sorted_rises (keys_cmp_total items rest) rows)

pub returns-clause-unique : goal.returns-clause-unique
returns-clause-unique c = λ items rows others. sorted_unique (keys_cmp_total items true) (keys_cmp-Equal items) rows others
