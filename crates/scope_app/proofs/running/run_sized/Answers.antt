use Rattle.scope_outside.specs.State.{StoreState}
use Rattle.user_ops.specs.Told.{Operators}
use Rattle.user_ops.specs.contracts.op_set.OpSetTells.TheImpl as impl
use Rattle.size_model.specs.Answers.{parts_of}
use Rattle.scope_streams.specs.Ends.{bags_of}
use Rattle.scope_app.proofs.EndLemmas.{ended_from, scanned, scans_ended}
use Rattle.scope_app.proofs.running.run_sized.Goals as goal

pub returns-in-Ok : goal.returns-in-Ok
returns-in-Ok g c = λ script file at.
    let ops : Operators = (impl.ghosts g.dyn-1 g.dyn-2 g.dyn-3 g.dyn-4).tells c.args.ops.now in
    let old : StoreState = g.S.Store.told c.args.store.now in
    let read = rw c.as_slice.ensures at c.in-Ok.ensures.ok in
    ended_from ops script file old (g.S.Store.told c.read_scans.new.store) (g.S.Store.told c.run_scanned.new.store) c.run_scanned.result read.0
    (c.run_scanned.ensures script file
    (rw (read.0, c.as_slice-in-Ok.ensures.value) (scanned ops script file old old c.args.dag.now (parts_of c.args.sizes.now) (bags_of c.in-Ok.scans.items) read.1 at)))

pub returns-in-Err : goal.returns-in-Err
returns-in-Err g c = λ script file at.
    let ops : Operators = (impl.ghosts g.dyn-1 g.dyn-2 g.dyn-3 g.dyn-4).tells c.args.ops.now in
    let old : StoreState = g.S.Store.told c.args.store.now in
    rw (c.read_status.ensures)
    (scans_ended ops script file old (g.S.Store.told c.read_scans.new.store) c.args.dag.now (parts_of c.args.sizes.now) c.in-Err.stop (rw c.as_slice.ensures at c.in-Err.ensures.err) at)
