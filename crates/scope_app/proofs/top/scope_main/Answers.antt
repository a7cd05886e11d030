use Rattle.std.proofs.Common.{Some, None, List, ℕ, map, refl}
use Rattle.std.specs.String.{string_bytes}
use Rattle.scope_outside.specs.State.{StoreState}
use Rattle.user_ops.specs.Told.{Operators}
use Rattle.user_ops.specs.contracts.op_set.OpSetTells.TheImpl as impl
use Rattle.scope_words.specs.Views.{view}
use Rattle.scope_words.specs.Words.{reading_of}
use Rattle.scope_app.specs.declared.status.Status.TheVariants as status
use Rattle.scope_app.proofs.EndLemmas.{words_ended, no_memory_before}
use Rattle.scope_app.proofs.top.scope_main.Goals as goal

pub returns-in-Ok-Some : goal.returns-in-Ok-Some
returns-in-Ok-Some g c =
    let ops : Operators = (impl.ghosts g.dyn-1 g.dyn-2 g.dyn-3 g.dyn-4).tells c.args.ops.now in
    let words : List (List ℕ) = map string_bytes c.args.words.now in
    words_ended ops words (g.S.Store.told c.args.store.now) (g.S.Store.told c.run_script.new.store) (Some (view c.in-Ok-Some.reading)) c.run_script.result
    (rw c.in-Ok-Some.field-0-is at c.in-Ok-Some.ensures) (rw c.as_bytes.ensures.value at c.run_script.ensures)

pub returns-in-Ok-None : goal.returns-in-Ok-None
returns-in-Ok-None g c =
    let ops : Operators = (impl.ghosts g.dyn-1 g.dyn-2 g.dyn-3 g.dyn-4).tells c.args.ops.now in
    let words : List (List ℕ) = map string_bytes c.args.words.now in
    let old : StoreState = g.S.Store.told c.args.store.now in
    words_ended ops words old old None status.NotBuilt (rw c.in-Ok-None.field-0-is at c.in-Ok-None.ensures) refl

pub returns-in-Err : goal.returns-in-Err
returns-in-Err g c =
    let ops : Operators = (impl.ghosts g.dyn-1 g.dyn-2 g.dyn-3 g.dyn-4).tells c.args.ops.now in
    let words : List (List ℕ) = map string_bytes c.args.words.now in
    no_memory_before ops (g.S.Store.told c.args.store.now) (reading_of words)
