use Rattle.scope_outside.specs.State.{StoreState}
use Rattle.user_ops.specs.Told.{Operators}
use Rattle.user_ops.specs.contracts.op_set.OpSetTells.TheImpl as impl
use Rattle.scope_streams.specs.Ends.{named_texts}
use Rattle.scope_app.proofs.DagLemmas.{texts_written}
use Rattle.scope_app.proofs.EndLemmas.{write_ended}
use Rattle.scope_app.proofs.running.write_outputs.Goals as goal

pub returns : goal.returns
returns g c = λ script sizes bags at made.
    let ops : Operators = (impl.ghosts g.dyn-1 g.dyn-2 g.dyn-3 g.dyn-4).tells c.args.ops.now in
    let old : StoreState = g.S.Store.told c.args.store.now in
    let new : StoreState = g.S.Store.told c.write_texts.new.store in
    let texts = named_texts c.args.dag.now.outputs c.args.texts.now in
    rw (c.write_status.ensures)
    (write_ended ops script sizes old new texts c.write_texts.result (rw c.as_slice.ensures at c.write_texts.ensures.ok) (rw c.as_slice.ensures at c.write_texts.ensures.err)
    (texts_written ops script sizes old c.args.dag.now bags texts c.meanings_law.ensures made at))
