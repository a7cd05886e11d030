use Rattle.col_sets.specs.Sets.{has}
use Rattle.normal_form.proofs.EachLemmas.{each_second, each_first}
use Rattle.normal_form.proofs.passing.+is_over.Goals as goal

pub returns-then-is_over : goal.returns-then-is_over
returns-then-is_over t c =
    rw c.in-Pair.is
    (each_second (has c.args.cols) c.in-Pair.field-0 c.in-Pair.a c.in-Pair.b c.get.result.now c.get-then-is_over.result.now c.is_over.result c.is_over-then-is_over.result
    c.get.ensures c.get-then-is_over.ensures c.is_over.ensures c.if-is_over.true c.is_over-then-is_over.ensures)

pub returns-else-is_over : goal.returns-else-is_over
returns-else-is_over t c = rw c.in-Pair.is (each_first (has c.args.cols) c.in-Pair.field-0 c.in-Pair.a c.in-Pair.b c.get.result.now c.is_over.result c.get.ensures c.is_over.ensures c.if-is_over.false)
