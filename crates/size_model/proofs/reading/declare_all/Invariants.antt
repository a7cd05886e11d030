use Rattle.row_codec.specs.Records.{IsBetween, left_of}
use Rattle.size_model.proofs.ReadingLemmas.{ReadSoFar}
use Rattle.size_model.proofs.reading.declare_all.Given as goal

abbrev pub invariant-loop-before : goal.invariant-loop-before
invariant-loop-before l = record {
  between : IsBetween l.text.reader;
  so_far : ReadSoFar (left_of l.initial.text.reader) l.before (left_of l.text.reader) l.sizes;
}
