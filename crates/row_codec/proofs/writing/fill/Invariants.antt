use Rattle.std.proofs.Common.{◌≡◌, [], map, take}
use Rattle.csv.specs.Records.{fields_of, partial_of}
use Rattle.row_codec.specs.Fields.{field_text}
use Rattle.row_codec.proofs.writing.fill.Given as goal

abbrev pub invariant-loop-value : goal.invariant-loop-value
invariant-loop-value l = record {
  fields : fields_of l.line ≡ map field_text (take l.value-index l.values);
  partial : partial_of l.line ≡ [];
}
