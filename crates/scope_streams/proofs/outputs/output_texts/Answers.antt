use Rattle.std.proofs.lemmas.Slice.Zip.{either_empty_from_Zip}
use Rattle.scope_streams.proofs.OutputLemmas.{texts_end}
use Rattle.scope_streams.proofs.outputs.output_texts.Goals as goal

pub returns : goal.returns
returns c =
    texts_end c.loop-output.texts.items c.args.outputs.now c.loop-output.output-iterator.a.rest.now c.args.rows.now c.loop-output.output-iterator.b.rest.now
    (either_empty_from_Zip c.loop-output.output-iterator c.next.new.self c.next.result c.in-None.is c.next.ensures.steps) c.loop-output.invariant
