use Rattle.std.proofs.lemmas.Slice.Zip.{Zip-more, either_empty_from_Zip}
use Rattle.scope_streams.specs.Ends.{named_texts}
use Rattle.scope_streams.proofs.OutputLemmas.{written_more, all_written, named_next, named_end}
use Rattle.scope_streams.proofs.outputs.write_texts.Goals as goal

pub loop-output-preserved : goal.loop-output-preserved
loop-output-preserved g c =
    let z = Zip-more c.loop-output.output-iterator c.next.new.self c.next.result (c.in-Some.output, c.in-Some.text) c.in-Some.is c.next.ensures.steps in
    written_more (named_texts c.args.outputs.now c.args.texts.now) (named_texts c.next.new.self.a.rest.now c.next.new.self.b.rest.now) c.in-Some.output.now.name c.in-Some.text.now.items
    (named_texts c.loop-output.output-iterator.a.rest.now c.loop-output.output-iterator.b.rest.now) (g.S.Store.told c.args.store.now) (g.S.Store.told c.loop-output.store) (g.S.Store.told c.write.new.self)
    (named_next c.in-Some.output.now c.in-Some.text.now _ _ _ _ z.0 z.1) c.loop-output.invariant (rw (c.as_slice.ensures, c.as_slice-in-loop-output.ensures.value) at c.in-Done.ensures)

pub returns-clause-ok : goal.returns-clause-ok
returns-clause-ok g c =
    all_written (named_texts c.args.outputs.now c.args.texts.now) (named_texts c.loop-output.output-iterator.a.rest.now c.loop-output.output-iterator.b.rest.now) (g.S.Store.told c.args.store.now)
    (g.S.Store.told c.loop-output.store)
    (named_end c.loop-output.output-iterator.a.rest.now c.loop-output.output-iterator.b.rest.now
    (either_empty_from_Zip c.loop-output.output-iterator c.next.new.self c.next.result c.in-None.is c.next.ensures.steps))
    c.loop-output.invariant
