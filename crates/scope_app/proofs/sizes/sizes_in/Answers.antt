use Rattle.scope_outside.specs.State.{StoreState}
use Rattle.scope_app.proofs.EndLemmas.{sizes_unread, sizes_found, sizes_missed}
use Rattle.scope_app.proofs.sizes.sizes_in.Goals as goal

pub returns-in-Ok-clause-ok : goal.returns-in-Ok-clause-ok
returns-in-Ok-clause-ok g c =
    let old : StoreState = g.S.Store.told c.args.store.now in
    let new : StoreState = g.S.Store.told c.read_file.new.store in
    sizes_found c.args.file.now old new c.in-Ok.bytes.items c.in-Ok.ensures.ok.0 c.in-Ok.ensures.ok.1 c.sizes_of.result (rw c.as_slice.ensures.value at c.sizes_of.ensures.ok)

pub returns-in-Ok-clause-err : goal.returns-in-Ok-clause-err
returns-in-Ok-clause-err g c =
    let old : StoreState = g.S.Store.told c.args.store.now in
    let new : StoreState = g.S.Store.told c.read_file.new.store in
    sizes_missed c.args.file.now old new c.in-Ok.bytes.items c.in-Ok.ensures.ok.0 c.in-Ok.ensures.ok.1 c.sizes_of.result (rw c.as_slice.ensures.value at c.sizes_of.ensures.err)

pub returns-in-Err-clause-err : goal.returns-in-Err-clause-err
returns-in-Err-clause-err g c = λ ops script dag built.
    let old : StoreState = g.S.Store.told c.args.store.now in
    let new : StoreState = g.S.Store.told c.read_file.new.store in
    rw (c.read_status.ensures) (sizes_unread ops script c.args.file.now old new dag c.in-Err.stop c.in-Err.ensures.err built)
