use Rattle.scope_outside.specs.State.{StoreState}
use Rattle.user_ops.specs.Told.{Operators}
use Rattle.user_ops.specs.contracts.op_set.OpSetTells.TheImpl as impl
use Rattle.scope_words.specs.Views.{text_of}
use Rattle.scope_app.proofs.EndLemmas.{dag_ended}
use Rattle.scope_app.proofs.top.run_script.Goals as goal

pub returns-in-Ok : goal.returns-in-Ok
returns-in-Ok g c =
    let ops : Operators = (impl.ghosts g.dyn-1 g.dyn-2 g.dyn-3 g.dyn-4).tells c.args.ops.now in
    let old : StoreState = g.S.Store.told c.args.store.now in
    let next : StoreState = g.S.Store.told c.dag_of_name.new.store in
    dag_ended ops c.args.name.now (text_of c.args.sizes) old next (g.S.Store.told c.run_dag.new.store) c.in-Ok.dag c.run_dag.result (c.in-Ok.ensures.ok (text_of c.args.sizes)) (c.run_dag.ensures c.args.name.now)

pub returns-in-Err : goal.returns-in-Err
returns-in-Err g c = c.in-Err.ensures.err (text_of c.args.sizes)
