use Rattle.std.proofs.Common.{rules}
use Rattle.normal_meaning.specs.Sinking.{item_for}
use Rattle.normal_form.proofs.EachLemmas.{with_pair}
use Rattle.normal_form.proofs.passing.+with_items.Goals as goal

pub returns-in_ok-b-in-Pair : goal.returns-in_ok-b-in-Pair
returns-in_ok-b-in-Pair t c = rw (c.in-Pair.is, with_pair (item_for c.args.items.now c.args.cols)) (search rules)
