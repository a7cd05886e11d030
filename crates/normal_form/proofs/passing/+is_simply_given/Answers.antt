use Rattle.normal_meaning.specs.Sinking.{has_simple}
use Rattle.normal_form.proofs.EachLemmas.{each_second, each_first}
use Rattle.normal_form.proofs.passing.+is_simply_given.Goals as goal

pub returns-then-is_simply_given : goal.returns-then-is_simply_given
returns-then-is_simply_given t c =
    rw c.in-Pair.is
    (each_second (has_simple c.args.items.now c.args.cols) c.in-Pair.field-0 c.in-Pair.a c.in-Pair.b c.get.result.now c.get-then-is_simply_given.result.now c.is_simply_given.result c.is_simply_given-then-is_simply_given.result
    c.get.ensures c.get-then-is_simply_given.ensures c.is_simply_given.ensures c.if-is_simply_given.true c.is_simply_given-then-is_simply_given.ensures)

pub returns-else-is_simply_given : goal.returns-else-is_simply_given
returns-else-is_simply_given t c = rw c.in-Pair.is (each_first (has_simple c.args.items.now c.args.cols) c.in-Pair.field-0 c.in-Pair.a c.in-Pair.b c.get.result.now c.is_simply_given.result c.get.ensures c.is_simply_given.ensures c.if-is_simply_given.false)
