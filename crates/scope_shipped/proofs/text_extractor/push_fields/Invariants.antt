use Rattle.std.proofs.Common.{◌≡◌, ◌++◌, length, drop, take, option_map}
use Rattle.row_codec.specs.Rows.{text_extracts}
use Rattle.scope_shipped.proofs.text_extractor.push_fields.Given as goal

abbrev pub invariant-loop-at : goal.invariant-loop-at
invariant-loop-at l = record {
  read : option_map (λ row. l.out.items ++ row) (text_extracts (drop l.at l.columns) (drop l.at l.fields))
      ≡ option_map (λ row. l.initial.out.items ++ row) (text_extracts l.columns l.fields);
  kept : take (length l.initial.out.items) l.out.items ≡ l.initial.out.items;
}
