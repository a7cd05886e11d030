use Rattle.std.proofs.Common.{◌∙◌, refl, sym}
use Rattle.scope_outside.specs.State.{StoreState}
use Rattle.user_ops.specs.Told.{Operators}
use Rattle.user_ops.specs.contracts.op_set.OpSetTells.TheImpl as impl
use Rattle.scope_words.specs.Views.{text_of}
use Rattle.scope_app.proofs.DagLemmas.{built, stored_ended}
use Rattle.scope_app.proofs.top.run_dag.Goals as goal

pub returns-then-is_stored : goal.returns-then-is_stored
returns-then-is_stored g c = λ script shown.
    let ops : Operators = (impl.ghosts g.dyn-1 g.dyn-2 g.dyn-3 g.dyn-4).tells c.args.ops.now in
    let old : StoreState = g.S.Store.told c.args.store.now in
    stored_ended ops script (text_of c.args.sizes) old c.args.dag old refl (sym c.if-is_stored.true ∙ c.is_stored.ensures) shown

pub returns-in-Ok : goal.returns-in-Ok
returns-in-Ok g c = λ script shown.
    let ops : Operators = (impl.ghosts g.dyn-1 g.dyn-2 g.dyn-3 g.dyn-4).tells c.args.ops.now in
    let old : StoreState = g.S.Store.told c.args.store.now in
    c.run_built.ensures script
    (built ops script (text_of c.args.sizes) old c.args.dag c.in-Ok.dag (sym c.if-is_stored.false ∙ c.is_stored.ensures) c.in-Ok.ensures.runs shown)

pub run_built-requires : goal.run_built-requires
run_built-requires g c =
    let ops : Operators = (impl.ghosts g.dyn-1 g.dyn-2 g.dyn-3 g.dyn-4).tells c.args.ops.now in
    c.in-Ok.ensures.ready ops c.requires
