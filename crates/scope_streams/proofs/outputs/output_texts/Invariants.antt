-- The texts so far and those of what is left are the texts of all outputs.
use Rattle.std.proofs.Common.{◌≡◌, ◌++◌}
use Rattle.scope_streams.specs.Turns.{texts_at}
use Rattle.scope_streams.proofs.OutputLemmas.{bytes_of}
use Rattle.scope_streams.proofs.outputs.output_texts.Given as goal

abbrev pub invariant-loop-output : goal.invariant-loop-output
invariant-loop-output l = bytes_of l.texts.items ++ texts_at l.output-iterator.a.rest.now l.output-iterator.b.rest.now ≡ texts_at l.outputs l.rows
