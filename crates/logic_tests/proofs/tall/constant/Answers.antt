use Rattle.std.proofs.Common.{refl}
use Rattle.script_trees.specs.declared.op.PairOp.TheVariants.{Eq}
use Rattle.logic_tests.proofs.TallFormed.{column-over, literal-over, made-over}
use Rattle.logic_tests.proofs.tall.constant.Goals as goal

pub returns : goal.returns
returns c = made-over c.pair.result Eq c.column.result c.number.result (column-over c.column.result 3 c.column.ensures refl) (literal-over c.number.result _ c.number.ensures) c.pair.ensures
