use Rattle.std.proofs.Common.{sym, subst}
use Rattle.script_trees.specs.declared.op.PairOp.TheVariants.{And}
use Rattle.logical_trees.specs.Formed.{IsOver}
use Rattle.logic_tests.specs.Tall.{four_columns}
use Rattle.logic_tests.proofs.TallFormed.{pair-over, made-over}
use Rattle.logic_tests.proofs.tall.conjuncts.Goals as goal

pub loop-preserved : goal.loop-preserved
loop-preserved c = subst (IsOver four_columns) (sym c.in_ok-all-2.ensures) (pair-over And c.loop.all c.in_ok-link.field-0 c.loop.invariant c.in_ok-link.ensures)

pub returns : goal.returns
returns c = made-over c.pair-2.result And c.loop.all c.in_ok-constant.field-0 c.loop.invariant c.in_ok-constant.ensures c.pair-2.ensures
