use Rattle.user_ops.specs.Told.{Operators}
use Rattle.user_ops.specs.contracts.op_set.OpSetTells.TheImpl as impl
use Rattle.scope_app.proofs.binding.dag_of_text.Goals as goal

pub returns-in-Err-clause-err : goal.returns-in-Err-clause-err
returns-in-Err-clause-err g c =
    let ops : Operators = (impl.ghosts g.dyn-1 g.dyn-2 g.dyn-3 g.dyn-4).tells c.args.ops.now in
    c.in-Err.ensures.err ops
