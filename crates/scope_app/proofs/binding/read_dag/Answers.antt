use Rattle.user_ops.specs.Told.{Operators}
use Rattle.user_ops.specs.contracts.op_set.OpSetTells.TheImpl as impl
use Rattle.scope_app.proofs.EndLemmas.{of_any, ends_of_any}
use Rattle.scope_app.proofs.binding.read_dag.Goals as goal

pub returns-clause-ok : goal.returns-clause-ok
returns-clause-ok g c =
    let ops : Operators = (impl.ghosts g.dyn-1 g.dyn-2 g.dyn-3 g.dyn-4).tells c.args.ops.now in
    of_any ops c.args.name.now (g.S.Store.told c.args.store.now) (g.S.Store.told c.dag_of_name.new.store) c.dag_of_name.result c.dag_of_name.ensures.ok

pub returns-clause-err : goal.returns-clause-err
returns-clause-err g c =
    let ops : Operators = (impl.ghosts g.dyn-1 g.dyn-2 g.dyn-3 g.dyn-4).tells c.args.ops.now in
    ends_of_any ops c.args.name.now (g.S.Store.told c.args.store.now) (g.S.Store.told c.dag_of_name.new.store) c.dag_of_name.result c.dag_of_name.ensures.err
