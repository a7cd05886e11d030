use Rattle.scope_outside.specs.State.{StoreState}
use Rattle.user_ops.specs.Told.{Operators}
use Rattle.user_ops.specs.contracts.op_set.OpSetTells.TheImpl as impl
use Rattle.scope_words.specs.Views.{text_of}
use Rattle.scope_app.proofs.EndLemmas.{ended_from}
use Rattle.scope_app.proofs.top.run_built.Goals as goal

pub returns-in-Ok : goal.returns-in-Ok
returns-in-Ok g c = λ script built.
    let ops : Operators = (impl.ghosts g.dyn-1 g.dyn-2 g.dyn-3 g.dyn-4).tells c.args.ops.now in
    let old : StoreState = g.S.Store.told c.args.store.now in
    let next : StoreState = g.S.Store.told c.sizes_of_run.new.store in
    let found = c.in-Ok.ensures.ok in
    ended_from ops script (text_of c.args.file) old next (g.S.Store.told c.run_sized.new.store) c.run_sized.result found.0
    (c.run_sized.ensures script (text_of c.args.file) (rw (found.0) (found.1 ops script c.args.dag.now built)))

pub returns-in-Err : goal.returns-in-Err
returns-in-Err g c = λ script built.
    let ops : Operators = (impl.ghosts g.dyn-1 g.dyn-2 g.dyn-3 g.dyn-4).tells c.args.ops.now in
    c.in-Err.ensures.err ops script c.args.dag.now built
