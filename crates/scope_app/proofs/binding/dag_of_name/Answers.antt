use Rattle.scope_outside.specs.State.{StoreState}
use Rattle.user_ops.specs.Told.{Operators}
use Rattle.user_ops.specs.contracts.op_set.OpSetTells.TheImpl as impl
use Rattle.scope_app.proofs.EndLemmas.{script_unread, dag_found, dag_missed}
use Rattle.scope_app.proofs.binding.dag_of_name.Goals as goal

pub returns-in-Ok-clause-ok : goal.returns-in-Ok-clause-ok
returns-in-Ok-clause-ok g c =
    let ops : Operators = (impl.ghosts g.dyn-1 g.dyn-2 g.dyn-3 g.dyn-4).tells c.args.ops.now in
    let old : StoreState = g.S.Store.told c.args.store.now in
    let new : StoreState = g.S.Store.told c.read_file.new.store in
    dag_found ops c.args.name.now old new c.in-Ok.bytes.items c.in-Ok.ensures.ok.0 c.in-Ok.ensures.ok.1 c.dag_of_text.result (rw c.as_slice.ensures.value at c.dag_of_text.ensures.ok)

pub returns-in-Ok-clause-err : goal.returns-in-Ok-clause-err
returns-in-Ok-clause-err g c =
    let ops : Operators = (impl.ghosts g.dyn-1 g.dyn-2 g.dyn-3 g.dyn-4).tells c.args.ops.now in
    let old : StoreState = g.S.Store.told c.args.store.now in
    let new : StoreState = g.S.Store.told c.read_file.new.store in
    dag_missed ops c.args.name.now old new c.in-Ok.bytes.items c.in-Ok.ensures.ok.0 c.in-Ok.ensures.ok.1 c.dag_of_text.result (rw c.as_slice.ensures.value at c.dag_of_text.ensures.err)

pub returns-in-Err-clause-err : goal.returns-in-Err-clause-err
returns-in-Err-clause-err g c = λ sizes.
    let ops : Operators = (impl.ghosts g.dyn-1 g.dyn-2 g.dyn-3 g.dyn-4).tells c.args.ops.now in
    let old : StoreState = g.S.Store.told c.args.store.now in
    rw (c.read_status.ensures) (script_unread ops c.args.name.now sizes old (g.S.Store.told c.read_file.new.store) c.in-Err.stop c.in-Err.ensures.err)
