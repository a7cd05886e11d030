-- What isn't left was written.
use Rattle.scope_streams.specs.Ends.{named_texts}
use Rattle.scope_streams.specs.Turns.{AreWritten}
use Rattle.scope_streams.proofs.outputs.write_texts.Given as goal

abbrev pub invariant-loop-output : goal.invariant-loop-output
invariant-loop-output g l =
    AreWritten (named_texts l.outputs l.texts) (named_texts l.output-iterator.a.rest.now l.output-iterator.b.rest.now) (g.S.Store.told l.initial.store) (g.S.Store.told l.store)
