use Rattle.std.proofs.Common.{refl}
use Rattle.script_trees.specs.declared.op.PairOp.TheVariants.{Eq}
use Rattle.logic_tests.proofs.TallFormed.{column-over, made-over}
use Rattle.logic_tests.proofs.tall.link.Goals as goal

pub returns : goal.returns
returns c =
    made-over c.pair.result Eq c.column.result c.column-2.result (column-over c.column.result 0 c.column.ensures refl) (column-over c.column-2.result 1 c.column-2.ensures refl) c.pair.ensures
